pub mod Only
pub mod Way
pub mod Order
pub mod Ways
pub mod Running
pub mod Axes
pub mod Whole
pub mod Unfolded
