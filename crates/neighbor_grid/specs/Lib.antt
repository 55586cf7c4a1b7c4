pub mod Grid
pub mod Layout
pub mod Steps
