pub mod AloneLaws
pub mod LeavingLaws
pub mod SingleLaws
pub mod StandingLaws
pub mod Unique
