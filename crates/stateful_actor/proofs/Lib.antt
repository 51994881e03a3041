pub mod MediaKept
pub mod MediaLonger
pub mod NotesLonger
pub mod Adding
