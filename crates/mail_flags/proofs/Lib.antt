pub mod TextLemmas
pub mod FlagLemmas
pub mod Examples
