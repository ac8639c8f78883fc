pub mod ChainsBegun
pub mod LocalsNamed
pub mod ParameterPlaces
