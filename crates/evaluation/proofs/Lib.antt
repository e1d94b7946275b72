pub mod EvaluationLaws
pub mod Formed
pub mod Slips
pub mod StateLaws
