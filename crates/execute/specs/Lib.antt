pub mod Begun
pub mod Extent
