pub mod Solve
pub mod List
pub mod Either
pub mod Theorems
pub mod Steps
