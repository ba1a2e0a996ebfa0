pub mod Ascii
pub mod Decimal
pub mod Trimming
