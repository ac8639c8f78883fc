pub mod ClassEntries
pub mod Made
