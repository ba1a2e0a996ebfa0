pub mod Names
pub mod System
pub mod Flags
