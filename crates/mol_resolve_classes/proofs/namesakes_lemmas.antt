pub mod Likeness
pub mod Grouped
pub mod InTurn
