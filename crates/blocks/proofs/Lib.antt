pub mod OwnerLaws
pub mod PassLaws
pub mod StatementLaws
pub mod Unique
