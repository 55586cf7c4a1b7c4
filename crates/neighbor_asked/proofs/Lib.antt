pub mod Nearby
pub mod Quiet
pub mod Displaced
pub mod Turns
