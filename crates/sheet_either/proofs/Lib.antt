pub mod Either
pub mod Only
pub mod Forms
