pub mod Blocks
pub mod Order
pub mod Renamed
pub mod Slots
pub mod TokenForms
pub mod Words
