pub mod AtPlaces
pub mod FaultsMet
pub mod FilesAdded
pub mod PlainPrograms
pub mod ReadInOrder
pub mod file_members_lemmas
pub mod member_headers_lemmas
