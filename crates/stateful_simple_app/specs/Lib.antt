pub mod Blocks
pub mod Rules
pub mod Drafts
pub mod Works
