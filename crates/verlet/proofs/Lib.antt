pub mod Fused
pub mod Only
pub mod Sizes
pub mod Speeds
pub mod Steps
