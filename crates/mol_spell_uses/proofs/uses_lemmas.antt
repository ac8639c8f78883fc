pub mod Added
pub mod ModeFree
pub mod TypesUsed
pub mod UsesNodes
