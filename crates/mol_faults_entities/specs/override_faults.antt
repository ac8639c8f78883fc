pub mod Declarations
pub mod Overridden
