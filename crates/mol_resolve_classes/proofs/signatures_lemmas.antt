pub mod TypesOrdered
pub mod InTurn
pub mod Repeated
