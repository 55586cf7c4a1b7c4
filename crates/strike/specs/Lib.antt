pub mod Calls
pub mod Closed
pub mod Steps
pub mod Left
pub mod Theorems
