pub mod Only
pub mod Told
