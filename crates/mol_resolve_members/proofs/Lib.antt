pub mod found_lemmas
pub mod members_lemmas
pub mod numbers_lemmas
pub mod places_lemmas
pub mod sources_lemmas
