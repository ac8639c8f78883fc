pub mod NamesOf
pub mod Spelt
pub mod keys
pub mod units
