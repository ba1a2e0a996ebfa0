pub mod Best
pub mod Bodies
pub mod Digits
mod EncodedExamples
mod Examples
pub mod EncodedLemmas
pub mod FaultLemmas
pub mod Gaps
pub mod Indexed
pub mod Marks
pub mod Named
pub mod Next
pub mod Numbered
pub mod OctetLemmas
pub mod Opening
pub mod Packing
pub mod Prefixes
pub mod RowLemmas
pub mod SequenceLemmas
pub mod Scanned
pub mod Several
pub mod Spaces
pub mod Strings
pub mod TokenLaws
pub mod Worded
pub mod CommentLemmas
