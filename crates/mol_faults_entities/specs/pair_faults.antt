pub mod Addresses
pub mod MadeRows
pub mod Pairs
pub mod Sharing
