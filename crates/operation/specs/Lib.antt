pub mod After
pub mod ByOp
pub mod Order
pub mod Outcome
