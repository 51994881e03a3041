pub mod Lessening
pub mod Boundaries
pub mod Alone
pub mod Calling
