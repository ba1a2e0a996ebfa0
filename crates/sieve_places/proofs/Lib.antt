mod Examples
mod PickLemmas
mod SpreadLemmas
