pub mod Indexing
pub mod Subscribers
pub mod Counting
pub mod Releasing
pub mod Awaiting
