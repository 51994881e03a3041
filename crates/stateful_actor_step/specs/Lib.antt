pub mod Machine
pub mod Faults
pub mod Notes
pub mod Reading
pub mod Step
