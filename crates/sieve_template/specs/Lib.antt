pub mod Values
pub mod Modifiers
pub mod Templates
pub mod Reading
pub mod Expansion
