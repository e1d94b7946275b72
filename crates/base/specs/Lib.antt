pub mod Choice
pub mod Codes
pub mod Course
pub mod Named
pub mod Numbered
pub mod OneAnswer
pub mod Refusals
