pub mod Parts
pub mod file_entities
pub mod member_entities
