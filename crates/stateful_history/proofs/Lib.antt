pub mod Marks
pub mod examples
