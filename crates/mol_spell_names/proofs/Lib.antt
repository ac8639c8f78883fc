pub mod body_names_lemmas
pub mod program_index_lemmas
pub mod simple_names_lemmas
pub mod uses_lemmas
