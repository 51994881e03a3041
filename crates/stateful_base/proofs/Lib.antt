pub mod Values
pub mod Fixed
pub mod Formats
