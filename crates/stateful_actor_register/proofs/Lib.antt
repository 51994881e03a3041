pub mod Changes
pub mod Ending
pub mod Entries
pub mod Listed
pub mod Proposals
pub mod Room
