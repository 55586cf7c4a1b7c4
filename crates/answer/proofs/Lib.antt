pub mod Only
pub mod Passed
