pub mod KeptFaults
pub mod KeptInOrder
pub mod AreNumbered
pub mod MethodsIn
pub mod FaultsAbove
pub mod ClassRows
