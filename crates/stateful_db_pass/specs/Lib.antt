pub mod Fetched
pub mod Kept
pub mod Progress
pub mod Counted
pub mod Serving
