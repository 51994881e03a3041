pub mod Plan
pub mod Scratch
pub mod Events
pub mod Store
pub mod Builds
