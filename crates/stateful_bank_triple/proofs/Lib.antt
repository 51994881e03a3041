pub mod Compacting
pub mod Following
