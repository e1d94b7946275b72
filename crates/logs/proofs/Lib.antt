pub mod AddressedLaws
pub mod AfterLaws
pub mod AppendLaws
pub mod BytesLaws
pub mod ChainLaws
pub mod HoldingLaws
pub mod JoinLaws
pub mod Unique
