pub mod AccessKeeps
pub mod AccessLaws
pub mod HasLaws
pub mod LogLaws
pub mod LogRules
pub mod Slips
pub mod Unique
