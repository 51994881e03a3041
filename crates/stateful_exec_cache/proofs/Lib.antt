pub mod Found
pub mod Digests
pub mod Indexed
pub mod Cutting
pub mod Judged
pub mod Descending
