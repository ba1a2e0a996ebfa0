pub mod Events
pub mod Held
pub mod Log
pub mod MessageIds
pub mod Moments
pub mod Pauses
pub mod Queue
