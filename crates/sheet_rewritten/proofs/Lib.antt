pub mod Sane
pub mod RowsOnly
pub mod Forms
pub mod Only
pub mod OneForm
pub mod Fitting
