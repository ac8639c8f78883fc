pub mod body_locals
pub mod body_places
pub mod scope_names
