pub mod body_names
pub mod program_index
pub mod simple_names
pub mod uses
