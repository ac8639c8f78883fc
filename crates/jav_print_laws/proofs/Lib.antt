pub mod layout_lemmas
pub mod pieces_lemmas
pub mod places_lemmas
pub mod printable_lemmas
