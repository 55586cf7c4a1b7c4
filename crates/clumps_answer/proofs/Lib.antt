pub mod Lines
pub mod Sizes
pub mod Solved
pub mod Only
