pub mod Plain
pub mod Pair
pub mod Triple
pub mod Database
pub mod Shown
pub mod Play
