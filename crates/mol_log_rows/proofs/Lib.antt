pub mod lines_lemmas
pub mod rows_lemmas
