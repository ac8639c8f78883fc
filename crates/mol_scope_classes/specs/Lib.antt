pub mod class_members
pub mod classes
pub mod hierarchy
