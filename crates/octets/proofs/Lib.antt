pub mod AsciiLemmas
pub mod DecimalLemmas
pub mod Lists
pub mod TrimLaws
