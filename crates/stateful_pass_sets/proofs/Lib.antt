pub mod Singles
pub mod Stepping
pub mod Pairs
