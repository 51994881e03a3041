pub mod RefusedBehind
pub mod Tried
pub mod MediaRefused
pub mod RunsRefused
pub mod BuildsRefused
pub mod RulesRefused
pub mod Completeness
pub mod NeverFailed
