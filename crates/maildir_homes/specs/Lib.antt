pub mod Homes
pub mod Templates
