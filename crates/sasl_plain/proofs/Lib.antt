pub mod Messages
pub mod Rounds
pub mod Logins
pub mod Examples
