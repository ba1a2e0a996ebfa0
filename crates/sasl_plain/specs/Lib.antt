pub mod Login
pub mod Parts
pub mod Password
