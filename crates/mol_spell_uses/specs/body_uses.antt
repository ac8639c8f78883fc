pub mod Loops
pub mod PartUses
pub mod UsesOn
