pub mod Run
pub mod Start
pub mod Result
pub mod Standing
