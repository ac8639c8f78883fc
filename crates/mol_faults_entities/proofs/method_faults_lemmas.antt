pub mod Listed
pub mod OutsideNamesFound
pub mod ApartFound
