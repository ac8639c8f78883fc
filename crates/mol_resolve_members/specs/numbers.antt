pub mod Marks
pub mod Ways
pub mod Members
pub mod Tops
pub mod Given
