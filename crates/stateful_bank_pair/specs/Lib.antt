pub mod Pair
pub mod Blank
