pub mod Held
pub mod Joining
pub mod Storing
