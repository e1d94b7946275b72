pub mod LoopLaws
pub mod NamedLaws
pub mod Unique
pub mod VerdictLaws
pub mod WalkLaws
