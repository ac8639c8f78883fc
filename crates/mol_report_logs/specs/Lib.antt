pub mod Limits
pub mod LogFaults
pub mod OpFaults
pub mod ReplayFaults
