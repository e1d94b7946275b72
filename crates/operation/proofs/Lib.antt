pub mod OutcomeLaws
pub mod Unique
