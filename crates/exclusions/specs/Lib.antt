pub mod Table
pub mod Steps
pub mod Calls
pub mod Theorems
