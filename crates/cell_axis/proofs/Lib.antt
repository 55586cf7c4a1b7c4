pub mod Quotient
pub mod Double
pub mod Count
pub mod Law
pub mod Long
pub mod Unit
pub mod Twice
