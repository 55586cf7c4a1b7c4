pub mod Calls
pub mod Ranged
pub mod Parts
pub mod Verlet
