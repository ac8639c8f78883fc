pub mod Ascended
pub mod Stepped
