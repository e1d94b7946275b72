pub mod DecimalLaws
pub mod PlacedLaws
pub mod RoleLaws
pub mod Unique
