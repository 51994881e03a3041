pub mod Op
pub mod Accounts
pub mod Balances
pub mod BankBlock
pub mod Proposal
