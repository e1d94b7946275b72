pub mod BoundLaws
pub mod Unique
