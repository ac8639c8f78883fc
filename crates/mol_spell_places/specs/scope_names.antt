pub mod Few
pub mod Places
pub mod Scopes
pub mod Params
