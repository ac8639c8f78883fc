pub mod NamesDeclared
pub mod Steps
