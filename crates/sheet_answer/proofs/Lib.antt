pub mod Telling
pub mod AnyOrder
pub mod Only
pub mod Fitting
pub mod TellingEither
