pub mod Examples
pub mod Telling
