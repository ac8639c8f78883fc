pub mod Lines
pub mod Operations
pub mod Told
pub mod Words
