pub mod Choice
pub mod Reading
pub mod Writing
