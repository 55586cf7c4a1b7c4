pub mod Forces
pub mod Only
pub mod Sums
