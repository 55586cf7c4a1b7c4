pub mod Asked
pub mod Calls
pub mod Source
pub mod Steps
pub mod Theorems
