pub mod BothSides
pub mod EveryConflict
pub mod KeptFaults
pub mod PairsListed
pub mod SupportListed
