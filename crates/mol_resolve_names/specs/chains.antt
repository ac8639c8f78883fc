pub mod InMembers
pub mod Spelled
