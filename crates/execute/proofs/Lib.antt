pub mod BodyLaws
pub mod EndedLaws
pub mod LoopLaws
pub mod SplitLaws
pub mod TestLaws
pub mod ThenLaws
pub mod Unique
