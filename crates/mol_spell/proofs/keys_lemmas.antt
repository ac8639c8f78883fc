pub mod KeysListed
pub mod KeysOrdered
pub mod SlashesForDots
