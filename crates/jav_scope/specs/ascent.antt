pub mod Walked
pub mod Circles
