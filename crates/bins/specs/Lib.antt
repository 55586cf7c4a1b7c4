pub mod Axis
pub mod Stencil
pub mod Traversal
pub mod Sort
pub mod Steps
pub mod Listing
pub mod Edge
