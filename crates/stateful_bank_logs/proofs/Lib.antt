pub mod Writing
pub mod Balancing
pub mod Appending
pub mod Pairing
