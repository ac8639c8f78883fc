pub mod Packages
pub mod Pairs
