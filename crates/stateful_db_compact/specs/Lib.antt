pub mod Ops
pub mod OpFormat
pub mod OpFormatLaws
pub mod Compacted
pub mod CompactShown
pub mod CompactStored
pub mod CompactSound
