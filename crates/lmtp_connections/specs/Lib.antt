pub mod Connections
pub mod Stands
pub mod Progress
