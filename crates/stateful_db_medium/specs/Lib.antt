pub mod Orders
pub mod Ranged
pub mod Openings
pub mod Kept
pub mod Soundness
pub mod TokenPlaces
pub mod Mapped
