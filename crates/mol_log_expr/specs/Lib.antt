pub mod Scope
pub mod ExpressionHeads
pub mod Expressions
pub mod ExpressionReader
pub mod ExpressionWords
