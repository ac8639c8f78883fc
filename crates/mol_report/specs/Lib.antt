pub mod Labels
pub mod FaultText
pub mod Ids
