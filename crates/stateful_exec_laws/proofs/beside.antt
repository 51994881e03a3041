pub mod Turned
pub mod Resumed
pub mod Fetched
pub mod Served
pub mod Cancelled
pub mod Paused
pub mod Moved
