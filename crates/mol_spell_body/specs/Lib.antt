pub mod GoesOn
pub mod Loops
pub mod Made
