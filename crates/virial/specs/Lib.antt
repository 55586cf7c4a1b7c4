pub mod Calls
pub mod Ranged
pub mod Virial
