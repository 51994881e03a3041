pub mod Grounds
pub mod Driven
pub mod Play
