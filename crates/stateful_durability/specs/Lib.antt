pub mod Durability
pub mod Calls
pub mod Shown
