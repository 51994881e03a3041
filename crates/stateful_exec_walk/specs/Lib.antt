pub mod Path
pub mod Request
pub mod Walk
