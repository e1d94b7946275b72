pub mod ByOp
pub mod Infer
pub mod Typing
pub mod Verdict
