pub mod Folding
pub mod Settling
pub mod Box
pub mod Desks
pub mod Lists
pub mod Only
