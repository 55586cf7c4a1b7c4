pub mod State
pub mod Rebuild
pub mod Update
pub mod Listed
pub mod Box
pub mod Source
pub mod Steps
