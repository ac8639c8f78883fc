pub mod AddressFaults
pub mod Fronts
pub mod Keys
pub mod MadeRows
pub mod PairFaults
pub mod PairsOrdered
pub mod Rows
pub mod SharedPairs
