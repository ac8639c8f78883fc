pub mod Added
pub mod ReadAtPlaces
pub mod Reported
pub mod Seen
