pub mod PathsRise
pub mod FirstInOrder
