pub mod Only
pub mod Rules
