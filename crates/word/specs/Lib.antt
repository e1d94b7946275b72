pub mod Words
pub mod Subs
