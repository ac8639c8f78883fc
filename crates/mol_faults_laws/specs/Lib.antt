pub mod Laws
pub mod sameness
pub mod support
