pub mod Off
pub mod ResumeEarned
pub mod Turned
pub mod CandidateStands
pub mod CandidateTurned
pub mod VerifiedApart
