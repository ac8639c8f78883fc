pub mod NamedExpressions
pub mod NamedBlocks
pub mod PartsInOrder
pub mod ExampleReferences
