pub mod Digits
pub mod Glyphs
