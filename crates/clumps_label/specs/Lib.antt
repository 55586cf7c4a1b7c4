pub mod Label
pub mod Theorems
pub mod Steps
