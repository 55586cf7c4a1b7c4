pub mod Written
pub mod Write
pub mod WrittenTwo
pub mod Theorems
