pub mod Clumps
pub mod Theorems
pub mod Steps
