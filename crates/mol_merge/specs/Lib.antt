pub mod Finding
pub mod MergedLogs
pub mod Outcomes
