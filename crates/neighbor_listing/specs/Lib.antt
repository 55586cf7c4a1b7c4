pub mod Found
pub mod Listed
pub mod Sides
pub mod Steps
