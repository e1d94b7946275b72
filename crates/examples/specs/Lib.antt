pub mod Examples
pub mod Limits
pub mod Orders
pub mod Refused
pub mod Runs
pub mod Secrets
