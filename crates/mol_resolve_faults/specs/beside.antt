pub mod Beside
pub mod Classes
pub mod Kept
pub mod Between
pub mod Laws
