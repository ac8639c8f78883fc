pub mod Reaching
pub mod Forest
pub mod Placed
pub mod Paths
