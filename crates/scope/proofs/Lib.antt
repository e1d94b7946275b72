pub mod HandingLaws
pub mod InsideLaws
pub mod NearestLaws
pub mod ScopeLaws
pub mod SearchLaws
pub mod Unique
pub mod UseLaws
