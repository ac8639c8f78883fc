pub mod Here
pub mod KindsNoted
pub mod Owners
pub mod Tests
pub mod BesideNoted
