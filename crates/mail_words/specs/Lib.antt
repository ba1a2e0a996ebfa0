pub mod Runs
pub mod Charsets
pub mod Quoted
pub mod Words
pub mod Values
pub mod Headers
pub mod Written
pub mod Laws
