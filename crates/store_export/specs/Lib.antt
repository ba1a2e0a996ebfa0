pub mod Parts
pub mod Places
pub mod Saying
pub mod Reading
