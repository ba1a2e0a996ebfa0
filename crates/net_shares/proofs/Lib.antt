mod Examples
pub mod FirstLemmas
pub mod GraceLemmas
