pub mod CountLaws
pub mod DepthLaws
pub mod NestingLaws
pub mod OperandLaws
pub mod Slips
pub mod StandsLaws
pub mod Unique
pub mod UserLaws
