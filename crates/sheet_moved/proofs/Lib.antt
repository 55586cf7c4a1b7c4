pub mod Moves
pub mod Only
pub mod ThereAndBack
pub mod Whole
