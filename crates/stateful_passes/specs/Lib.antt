pub mod Asks
pub mod Synced
pub mod CompactMade
pub mod LogMade
pub mod CompactServed
pub mod PlainMade
pub mod PlainServed
pub mod Serving
