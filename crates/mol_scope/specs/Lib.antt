pub mod asked
pub mod first_names
pub mod typenames
pub mod types
pub mod variables
