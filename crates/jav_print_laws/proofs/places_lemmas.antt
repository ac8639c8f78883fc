pub mod Changes
pub mod Operands
pub mod Units
pub mod Placeless
