pub mod Arith
pub mod Def
pub mod Estimate
pub mod Literals
pub mod Steps
pub mod Theorems
pub mod Remainder
