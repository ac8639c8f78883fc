pub mod Headings
pub mod Made
pub mod Outcomes
