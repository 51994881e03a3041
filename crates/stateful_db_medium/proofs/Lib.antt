pub mod Positions
pub mod Ascending
