pub mod Fault
pub mod Token
