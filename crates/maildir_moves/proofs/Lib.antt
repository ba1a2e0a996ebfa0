mod CarryLemmas
mod Examples
pub mod EnduringLemmas
pub mod FrontLemmas
pub mod MoveLemmas
pub mod OrderLemmas
pub mod RefusedLemmas
pub mod StepLemmas
pub mod TurnLemmas
pub mod WaitLemmas
