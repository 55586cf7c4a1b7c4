pub mod Rows
pub mod Turns
pub mod Passed
pub mod Only
pub mod Kept
pub mod Ordered
pub mod Pulls
pub mod Unmoved
