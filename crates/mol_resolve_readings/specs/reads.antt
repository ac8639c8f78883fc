pub mod Chains
pub mod Reads
