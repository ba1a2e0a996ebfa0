pub mod Intakes
pub mod Names
pub mod Sorting
