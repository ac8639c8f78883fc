pub mod creations
pub mod mentions
