pub mod Kept
pub mod Uses
