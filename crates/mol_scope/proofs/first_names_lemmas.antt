pub mod NamesSpelled
pub mod FirstRead
