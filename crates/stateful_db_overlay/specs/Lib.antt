pub mod Stack
pub mod Chains
