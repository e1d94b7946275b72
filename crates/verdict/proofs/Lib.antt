pub mod CheckLaws
pub mod EntryLaws
pub mod Unique
