pub mod Files
pub mod Lines
pub mod Tallies
pub mod Times
pub mod Values
