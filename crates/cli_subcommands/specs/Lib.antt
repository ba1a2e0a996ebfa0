pub mod Asks
pub mod Defaults
pub mod Ids
pub mod Rows
