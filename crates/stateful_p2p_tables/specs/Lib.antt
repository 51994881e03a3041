pub mod New
pub mod Subscribing
pub mod Deliveries
