pub mod NearestClimbed
pub mod NearestFound
pub mod Reached
pub mod SupersFound
