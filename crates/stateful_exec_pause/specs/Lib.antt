pub mod Boundary
pub mod Fates
pub mod Pausing
