pub mod Lines
pub mod Texts
pub mod Waits
pub mod DueRows
pub mod Queues
