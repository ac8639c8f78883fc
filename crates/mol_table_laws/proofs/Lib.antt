pub mod Blocks
pub mod Expressions
pub mod Values
