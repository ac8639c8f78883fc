pub mod creations_lemmas
pub mod mentions_lemmas
