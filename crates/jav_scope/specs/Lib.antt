pub mod Answers
pub mod Climbs
pub mod Entries
pub mod MemberLists
pub mod Scopes
pub mod ancestors
pub mod ascent
pub mod typenames
