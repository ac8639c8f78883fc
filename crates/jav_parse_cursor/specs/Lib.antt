pub mod Reading
pub mod Reads
pub mod Sorts
pub mod Nodes
pub mod TypeRules
