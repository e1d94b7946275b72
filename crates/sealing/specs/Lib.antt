pub mod ByOp
pub mod Labels
pub mod Sealing
pub mod Verdict
