pub mod StableOrder
pub mod PathOrder
pub mod OrderPlaces
pub mod MemberPlaces
pub mod FilesInOrder
pub mod PlacesHeld
