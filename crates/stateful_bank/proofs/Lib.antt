pub mod Doing
pub mod Following
pub mod Building
