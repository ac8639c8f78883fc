pub mod ArrayTypes
pub mod DottedTrees
pub mod Forms
pub mod Nodes
pub mod SpelledNames
pub mod WithLast
