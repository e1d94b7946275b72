pub mod ChoiceLaws
pub mod Slips
pub mod Unique
pub mod ValueLaws
