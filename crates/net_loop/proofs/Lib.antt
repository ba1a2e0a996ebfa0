pub mod BoundLemmas
pub mod EndLemmas
pub mod Examples
pub mod LifeLemmas
pub mod QueueLemmas
pub mod RoomLemmas
pub mod TalkLemmas
pub mod SendLemmas
