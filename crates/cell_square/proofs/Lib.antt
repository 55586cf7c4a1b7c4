pub mod Law
pub mod Keeps
pub mod Between
pub mod Least
pub mod Opposite
pub mod Spread
pub mod Zeros
