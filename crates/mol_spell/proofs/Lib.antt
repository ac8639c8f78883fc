pub mod FilesSpelt
pub mod keys_lemmas
pub mod units_lemmas
