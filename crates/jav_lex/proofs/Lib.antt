pub mod Alone
pub mod Along
pub mod Faults
pub mod Tiling
