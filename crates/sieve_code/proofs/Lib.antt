pub mod LayoutLemmas
pub mod Runs
pub mod Forward
pub mod Endings
pub mod Sizes
pub mod Examples
