pub mod AttemptLemmas
pub mod TalkLemmas
pub mod WireLemmas
mod Examples
