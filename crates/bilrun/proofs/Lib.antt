pub mod ReportLaws
pub mod Unique
