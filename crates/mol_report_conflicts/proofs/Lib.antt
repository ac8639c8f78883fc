pub mod Appended
pub mod Examples
pub mod Values
