pub mod Balances
pub mod Amounts
pub mod Kept
