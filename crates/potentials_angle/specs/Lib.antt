pub mod Bend
pub mod Calls
pub mod Newton
pub mod Ranged
pub mod Rows
pub mod Source
pub mod Terms
