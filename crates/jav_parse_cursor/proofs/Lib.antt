pub mod Chains
pub mod Cursor
pub mod NamesRead
pub mod Override
pub mod Turns
