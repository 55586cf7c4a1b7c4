pub mod GrammarTwo
pub mod WholeTwos
