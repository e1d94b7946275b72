pub mod Asked
pub mod Bytes
pub mod Decode
pub mod Fields
pub mod Records
pub mod Syntax
