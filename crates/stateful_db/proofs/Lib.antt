pub mod Chains
pub mod Handles
pub mod Openings
pub mod OpenHandles
pub mod Pairs
