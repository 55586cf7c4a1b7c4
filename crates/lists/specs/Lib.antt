pub mod Atoms
pub mod Exact
pub mod Lists
pub mod Loops
