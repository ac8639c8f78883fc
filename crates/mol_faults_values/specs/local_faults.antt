pub mod PartScopes
pub mod Clashing
