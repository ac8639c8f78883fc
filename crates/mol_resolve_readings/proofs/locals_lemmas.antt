pub mod Found
pub mod NearestNames
pub mod ScopeKept
pub mod Steps
