pub mod Payloads
pub mod Whole
