pub mod Twos
pub mod Grammar
