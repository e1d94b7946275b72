pub mod CleanLaws
pub mod JudgedLabels
pub mod OperandLabels
pub mod PlaceLaws
pub mod SealLaws
pub mod Unique
