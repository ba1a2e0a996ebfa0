pub mod Pieces
pub mod Parts
pub mod Outbound
pub mod Spelling
pub mod Drafts
pub mod Reading
