mod Examples
pub mod MemoryLemmas
pub mod ShelfLemmas
pub mod CopyLemmas
