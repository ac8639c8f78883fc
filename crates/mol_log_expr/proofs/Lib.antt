pub mod BackExpressions
pub mod ExpressionTurns
pub mod Locals
pub mod SoundExpressions
pub mod WrittenExpressions
