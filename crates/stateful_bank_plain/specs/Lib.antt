pub mod Single
pub mod Blank
