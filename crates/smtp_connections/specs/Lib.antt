pub mod Answers
pub mod Connections
pub mod Cuts
pub mod Exchanges
pub mod Lives
