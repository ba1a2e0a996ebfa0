pub mod AnswerLemmas
pub mod CutLemmas
pub mod EscapeLemmas
mod Examples
pub mod FitLemmas
pub mod LifeLemmas
pub mod LineLemmas
pub mod ProbeLemmas
pub mod RequestLemmas
pub mod TalkLemmas
