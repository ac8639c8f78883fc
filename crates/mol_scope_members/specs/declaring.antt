pub mod Collecting
pub mod Indexed
pub mod MemberEntries
pub mod Owners
