pub mod Sizes
pub mod Plans
pub mod Loops
pub mod Measured
pub mod Layouts
