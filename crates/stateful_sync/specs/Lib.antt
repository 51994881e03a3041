pub mod Assigned
pub mod Coordinator
pub mod Laws
pub mod Classify
pub mod Mailbox
pub mod MailboxLaws
