pub mod GrammarLaws
pub mod AnyForm
pub mod Texts
pub mod WholeLines
pub mod Unread
