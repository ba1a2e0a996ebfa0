pub mod LineLemmas
pub mod TimeLemmas
pub mod ValueLemmas
