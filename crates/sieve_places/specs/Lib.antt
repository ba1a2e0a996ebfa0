pub mod Picks
pub mod Places
pub mod Spread
