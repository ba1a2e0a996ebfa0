pub mod Attempts
pub mod Rows
pub mod Talks
pub mod Wires
