pub mod Kept
pub mod Acquired
pub mod Begun
pub mod Moved
