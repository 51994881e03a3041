pub mod Starts
pub mod Honest
pub mod Carried
pub mod Played
