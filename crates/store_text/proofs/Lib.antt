pub mod CutLemmas
pub mod NumberLemmas
pub mod NetstringLemmas
pub mod FieldLemmas
pub mod EntryLemmas
pub mod ReadLemmas
mod Examples
pub mod OrderLemmas
pub mod LimitLemmas
