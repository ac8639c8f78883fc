pub mod Branched
pub mod Declared
pub mod HandedOver
pub mod InTurn
pub mod Looped
pub mod StatementNodes
