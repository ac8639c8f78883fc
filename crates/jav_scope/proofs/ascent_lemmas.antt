pub mod Walks
pub mod Crossing
pub mod Rounds
pub mod ClassNumbers
