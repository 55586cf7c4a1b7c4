pub mod Meaning
pub mod Reading
pub mod Desk
pub mod Read
pub mod ReadTwo
pub mod Theorems
