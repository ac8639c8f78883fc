pub mod Compared
pub mod Groups
