pub mod Fields
pub mod Netstring
pub mod Order
pub mod Text
pub mod Writing
pub mod Reading
pub mod Limits
