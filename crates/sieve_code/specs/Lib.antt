pub mod Instructions
pub mod Jumps
pub mod Layout
pub mod Size
