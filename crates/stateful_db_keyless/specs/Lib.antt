pub mod Keyless
pub mod Reads
pub mod Through
pub mod KeylessShown
pub mod KeylessStored
pub mod KeylessSound
pub mod Follows
