pub mod Windows
pub mod Laws
pub mod Target
pub mod Answer
pub mod Retained
