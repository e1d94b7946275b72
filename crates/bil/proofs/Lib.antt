pub mod RunCallLaws
pub mod TestLaws
pub mod Unique
