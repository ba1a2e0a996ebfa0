pub mod PutLemmas
pub mod AgainLemmas
pub mod ChainLemmas
pub mod KeptLemmas
pub mod RunLemmas
pub mod SayingLemmas
pub mod ListingLemmas
pub mod PlaceLemmas
pub mod PartLemmas
pub mod WholeLemmas
mod Examples
