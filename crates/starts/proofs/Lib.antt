pub mod EntryLaws
pub mod PairLaws
pub mod Unique
pub mod NumberLaws
pub mod StartLaws
