pub mod Replies
pub mod Sending
pub mod Messages
pub mod Tickets
pub mod Mail
pub mod Laws
