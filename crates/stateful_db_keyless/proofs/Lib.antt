pub mod KeylessChains
pub mod Following
pub mod Reading
pub mod Locations
pub mod Syncing
