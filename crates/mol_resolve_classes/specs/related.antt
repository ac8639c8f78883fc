pub mod Compared
pub mod Tables
