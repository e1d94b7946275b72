pub mod Lent
pub mod Held
