pub mod Rooted
pub mod Served
pub mod Bounds
pub mod OpReads
pub mod OpWrites
pub mod Entries
pub mod Written
pub mod Showing
