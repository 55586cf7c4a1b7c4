pub mod Skin
pub mod Lengths
pub mod Theorems
