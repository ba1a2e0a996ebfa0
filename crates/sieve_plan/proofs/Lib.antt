pub mod VacationLemmas
pub mod PlanLemmas
pub mod DeliveryLaws
pub mod SentLaws
pub mod OverLaws
pub mod FoundLaws
mod Examples
mod HandoverExamples
pub mod HandoverLaws
pub mod SequenceLaws
pub mod InboxLaws
pub mod SequencePlanLemmas
pub mod TurnLemmas
mod SequenceExamples
pub mod KeptLemmas
