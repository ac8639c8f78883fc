pub mod body_uses_lemmas
pub mod uses_lemmas
