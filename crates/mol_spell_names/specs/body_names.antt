pub mod Above
pub mod FilePlaces
pub mod FoundAs
