pub mod Headers
pub mod Clashes
pub mod Doubles
pub mod Marks
pub mod Packages
