pub mod Names
pub mod Shapes
pub mod Statements
pub mod TypeForms
