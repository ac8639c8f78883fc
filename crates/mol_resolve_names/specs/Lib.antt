pub mod accesses
pub mod chains
pub mod lone_names
pub mod names
pub mod type_trees
