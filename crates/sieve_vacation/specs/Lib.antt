pub mod Handles
pub mod Cases
pub mod Signs
pub mod Reasons
pub mod Folds
pub mod Dates
pub mod Layout
