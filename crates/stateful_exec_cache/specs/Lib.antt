pub mod Cache
pub mod Index
pub mod Cut
pub mod Judgement
