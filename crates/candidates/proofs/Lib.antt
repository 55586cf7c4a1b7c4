pub mod Counted
pub mod Turns
pub mod Runs
