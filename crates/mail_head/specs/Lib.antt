pub mod Lines
pub mod Cuts
pub mod Fields
pub mod Heads
pub mod Messages
pub mod Sizes
pub mod Prefixes
pub mod SizeCounts
