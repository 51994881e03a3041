pub mod MovingTip
pub mod FalseVerdicts
pub mod AskedAgain
pub mod Waiting
pub mod SharedRun
