pub mod declaring_lemmas
pub mod inherited_lemmas
pub mod topmost_lemmas
