pub mod accesses_lemmas
pub mod chains_lemmas
pub mod lone_names_lemmas
pub mod names_lemmas
pub mod type_trees_lemmas
