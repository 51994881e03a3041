pub mod Results
pub mod Slices
pub mod Windows
pub mod Blobs
