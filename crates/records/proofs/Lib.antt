pub mod RowLaws
pub mod SearchLaws
pub mod Unique
