pub mod FullTable
pub mod ReadBack
