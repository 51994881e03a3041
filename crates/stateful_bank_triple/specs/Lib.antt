pub mod Compact
pub mod Triple
pub mod Following
pub mod Logs
pub mod Blank
