pub mod Outlines
pub mod Builds
pub mod Kept
pub mod Labels
pub mod Heights
pub mod Scratches
pub mod Planning
