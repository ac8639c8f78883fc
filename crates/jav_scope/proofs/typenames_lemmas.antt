pub mod FirstNames
pub mod OutsideRead
