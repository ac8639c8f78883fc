pub mod InTurn
pub mod Named
pub mod Repeated
pub mod SameRows
pub mod Found
pub mod Scoped
