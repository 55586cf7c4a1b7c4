pub mod Moved
pub mod Theorems
pub mod Whole
