pub mod AsciiNames
pub mod Lookups
pub mod Ties
