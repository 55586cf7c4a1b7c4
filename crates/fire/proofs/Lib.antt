pub mod Largest
pub mod Turns
pub mod Promises
pub mod Only
