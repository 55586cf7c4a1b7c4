pub mod Shells
pub mod Theorems
pub mod Steps
