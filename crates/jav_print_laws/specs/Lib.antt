pub mod layout
pub mod pieces
pub mod places
pub mod printable
