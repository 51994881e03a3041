pub mod CompactChains
pub mod OpFormats
