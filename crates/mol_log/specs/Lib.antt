pub mod Form
pub mod LogForms
pub mod LogLines
pub mod NextEntry
pub mod Reading
pub mod Written
pub mod entries
