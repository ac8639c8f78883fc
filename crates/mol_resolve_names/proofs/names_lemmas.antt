pub mod DeclaredIds
pub mod GivenParams
pub mod MembersRead
pub mod ReadersMade
pub mod ReadersOver
pub mod TypesRead
