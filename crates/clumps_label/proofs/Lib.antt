pub mod Trees
pub mod Chains
pub mod Labels
pub mod Only
