pub mod Reading
pub mod Limits
