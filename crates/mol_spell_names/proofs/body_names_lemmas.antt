pub mod FoundAbove
pub mod FoundHere
pub mod PlacesRead
