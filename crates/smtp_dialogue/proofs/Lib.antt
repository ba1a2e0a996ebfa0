mod AddressLemmas
pub mod DialogueLemmas
pub mod Examples
pub mod ExtensionLemmas
pub mod MessageLemmas
pub mod MailboxLemmas
pub mod ReplyLemmas
pub mod RunLemmas
pub mod SentLemmas
mod ShownLemmas
mod SplitLemmas
