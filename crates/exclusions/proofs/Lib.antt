pub mod RowOrder
pub mod Search
pub mod Insertion
pub mod Storing
pub mod CallLaws
pub mod Only
pub mod Gathered
