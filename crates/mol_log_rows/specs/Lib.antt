pub mod lines
pub mod rows
