pub mod Totals
pub mod Distances
pub mod Refusals
pub mod Within
pub mod Sums
pub mod Runs
pub mod Only
