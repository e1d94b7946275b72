pub mod AcceptedLaws
pub mod EvaluationKeeps
pub mod PairLaws
pub mod RunKeeps
pub mod Slips
pub mod StartKeeps
pub mod StartLaws
