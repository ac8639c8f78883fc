pub mod First
pub mod Kinds
pub mod Noted
pub mod ResolveFaults
pub mod beside
pub mod first_faults
