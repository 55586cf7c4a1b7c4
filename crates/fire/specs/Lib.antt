pub mod Asked
pub mod Calls
pub mod Steer
pub mod Steps
pub mod Theorems
