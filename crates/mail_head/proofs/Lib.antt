pub mod LineLemmas
pub mod FoldLemmas
pub mod HeaderLemmas
pub mod MessageLemmas
pub mod FormLemmas
pub mod CutLemmas
pub mod PlaceLemmas
pub mod SizeLemmas
pub mod EndLaws
pub mod Examples
pub mod FrontLemmas
pub mod CountLemmas
mod PrefixExamples
