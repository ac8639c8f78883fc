pub mod body_misreads
pub mod misread_faults
