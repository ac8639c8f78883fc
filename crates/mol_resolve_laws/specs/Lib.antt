pub mod Entities
pub mod Laws
