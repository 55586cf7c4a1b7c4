pub mod Lengths
pub mod Skin
pub mod Theorems
pub mod Only
