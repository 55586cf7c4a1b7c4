pub mod OneAfterAnother
pub mod TwoAfterAnother
pub mod Cases
pub mod Only
pub mod Flags
pub mod Back
