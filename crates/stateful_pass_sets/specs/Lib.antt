pub mod Seeking
pub mod Steps
pub mod Counts
pub mod Made
