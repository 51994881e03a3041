pub mod Config
pub mod Rule
pub mod Pruning
pub mod Calls
pub mod Shown
