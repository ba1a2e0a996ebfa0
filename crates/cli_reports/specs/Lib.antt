pub mod Addresses
pub mod Laws
pub mod Listings
pub mod Reports
