pub mod Entries
pub mod InTurn
pub mod Together
