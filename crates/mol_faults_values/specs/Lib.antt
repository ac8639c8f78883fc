pub mod local_faults
pub mod missing_faults
