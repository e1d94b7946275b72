pub mod Demands
pub mod Idle
pub mod Refuted
