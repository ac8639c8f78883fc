pub mod Bare
pub mod Maps
pub mod Tidying
