pub mod Line
pub mod LabelIndex
pub mod Mark
pub mod Transcript
pub mod MarkMeaning
