pub mod Change
pub mod Ends
pub mod Flushes
pub mod Live
pub mod Proposals
pub mod Register
