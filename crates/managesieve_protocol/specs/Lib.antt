pub mod Arguments
pub mod Commands
pub mod Items
pub mod Machine
pub mod Replies
pub mod Scanning
pub mod Shown
pub mod Values
