pub mod Owners
pub mod Room
