pub mod Uncalled
pub mod Drafting
pub mod Outcomes
pub mod Turning
pub mod Running
pub mod Building
pub mod Blocks
