pub mod Modifiers
pub mod StatementParts
pub mod Written
