pub mod Either
pub mod Theorems
