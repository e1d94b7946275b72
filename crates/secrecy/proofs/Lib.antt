pub mod Both
pub mod Demand3
pub mod Evaluations
pub mod Runs
pub mod Same
pub mod Stores
pub mod Worlds
