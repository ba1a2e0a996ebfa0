pub mod Causes
pub mod Closing
pub mod Laws
pub mod Memory
pub mod Taken
pub mod HeldStores
