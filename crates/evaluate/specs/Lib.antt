pub mod Asked
pub mod Calls
pub mod Desks
pub mod Steps
pub mod Terms
