pub mod FirstOfAll
pub mod Joined
pub mod MetAdded
pub mod MetMore
pub mod MetNames
pub mod NamesSorted
