pub mod RepeatedNames
pub mod file_entities_lemmas
