pub mod RanLaws
pub mod ResultLaws
pub mod Unique
