pub mod Names
pub mod NumberedClasses
pub mod Shapes
pub mod Types
