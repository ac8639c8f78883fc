pub mod asked_lemmas
pub mod choices_lemmas
pub mod first_names_lemmas
pub mod typenames_lemmas
pub mod types_lemmas
pub mod variables_lemmas
