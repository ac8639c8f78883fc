pub mod ImportSets
pub mod NamesLeft
pub mod Shared
