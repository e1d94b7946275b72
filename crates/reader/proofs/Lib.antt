pub mod RecordsLaws
pub mod Unique
