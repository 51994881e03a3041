pub mod Fake
pub mod Works
