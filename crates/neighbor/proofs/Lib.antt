pub mod Asking
pub mod Updates
pub mod Demands
pub mod Box
pub mod Only
pub mod Source
mod Unmoved
