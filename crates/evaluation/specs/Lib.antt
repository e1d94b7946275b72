pub mod Evaluation
pub mod Fitting
pub mod State
