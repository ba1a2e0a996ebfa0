mod Examples
pub mod HeldLemmas
pub mod RoomLemmas
pub mod LogLemmas
pub mod TogetherLemmas
