pub mod Graces
pub mod Order
pub mod Shares
