pub mod Measures
pub mod PrintedHeights
