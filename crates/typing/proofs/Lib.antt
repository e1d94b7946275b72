pub mod BlockLaws
pub mod CastLaws
pub mod EqLaws
pub mod JudgedTypes
pub mod OperandTypes
pub mod StrictLaws
pub mod TypingLaws
pub mod Unique
