pub mod Access
pub mod Buffer
pub mod Log
pub mod Room
pub mod Typed
