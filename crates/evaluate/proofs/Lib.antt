pub mod ArmLaws
pub mod OnLaws
pub mod StepLaws
pub mod WentLaws
pub mod Unique
