pub mod NamedLaws
pub mod RootLaws
pub mod WalkLaws
pub mod Unique
