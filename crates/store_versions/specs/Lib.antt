pub mod Inside
pub mod OldSchema
pub mod SecondSchema
pub mod Migration
pub mod Third
pub mod Upgrade
pub mod Opening
