pub mod Receipts
pub mod Order
pub mod Barriers
pub mod Laws
