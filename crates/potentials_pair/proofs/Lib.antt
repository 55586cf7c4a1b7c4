pub mod Desks
pub mod Lookup
pub mod Newton
pub mod Once
pub mod Rules
