pub mod Decisions
pub mod WordLemmas
pub mod MatchLemmas
pub mod OrderLemmas
pub mod PartLemmas
pub mod DateLemmas
pub mod EnvelopeLemmas
pub mod MailboxTestLemmas
pub mod FlagLemmas
pub mod ExtensionLemmas
pub mod TruthLemmas
pub mod FrontLemmas
pub mod IndexLemmas
pub mod JoinedLemmas
pub mod KeyLemmas
pub mod ImageLemmas
pub mod AlikeLemmas
pub mod NameLemmas
mod Examples
mod DateExamples
pub mod MachineLemmas
pub mod MailboxLemmas
pub mod WorkLemmas
pub mod StepLemmas
