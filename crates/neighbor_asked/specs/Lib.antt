pub mod Asked
pub mod Strays
