pub mod Entries
pub mod EntryForms
pub mod Reading
pub mod RowsOf
pub mod Spelling
pub mod Trees
