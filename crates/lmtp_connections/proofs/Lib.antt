pub mod DemandLemmas
mod Examples
pub mod ConnectionLemmas
