pub mod Rewrite
pub mod Steps
pub mod Theorems
