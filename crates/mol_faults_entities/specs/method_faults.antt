pub mod ApartMethods
pub mod OutsideNames
