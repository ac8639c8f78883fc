pub mod Files
pub mod Found
pub mod Scopes
