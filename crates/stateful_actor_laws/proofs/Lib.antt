pub mod work
pub mod steps
pub mod complete
pub mod ahead
