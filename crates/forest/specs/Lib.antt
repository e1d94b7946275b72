pub mod Counting
pub mod Ends
pub mod Forest
