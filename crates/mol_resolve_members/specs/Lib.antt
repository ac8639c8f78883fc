pub mod found
pub mod members
pub mod numbers
pub mod places
pub mod sources
