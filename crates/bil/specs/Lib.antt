pub mod RunCall
pub mod WordCalls
