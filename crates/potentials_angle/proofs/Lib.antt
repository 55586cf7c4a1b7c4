pub mod Kernels
pub mod Newton
pub mod Only
pub mod Source
