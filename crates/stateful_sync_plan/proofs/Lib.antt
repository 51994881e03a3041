pub mod States
pub mod Ahead
pub mod Accepted
pub mod Wholes
pub mod Choices
pub mod Openings
