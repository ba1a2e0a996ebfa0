pub mod HeaderFields
pub mod SectionLemmas
pub mod WalkLemmas
pub mod BoundaryLaws
pub mod MultipartLaws
pub mod SkipLemmas
pub mod LookLemmas
mod Examples
