pub mod header_faults
pub mod headers
pub mod namesakes
pub mod related
pub mod signatures
