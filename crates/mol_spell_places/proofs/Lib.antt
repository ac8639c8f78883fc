pub mod body_locals_lemmas
pub mod body_places_lemmas
pub mod scope_names_lemmas
