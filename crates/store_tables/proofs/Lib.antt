pub mod CellLemmas
pub mod AnswerLemmas
pub mod FirstRowLemmas
pub mod StepLemmas
pub mod ReadLemmas
pub mod ColumnLemmas
pub mod ListLemmas
pub mod SchemaFacts
pub mod TextFacts
pub mod SchemaLemmas
pub mod StatementLemmas
pub mod ResultLemmas
pub mod WriteLemmas
pub mod CreateLemmas
pub mod VersionLemmas
mod OursExamples
