pub mod Lives
pub mod Noting
pub mod Writing
