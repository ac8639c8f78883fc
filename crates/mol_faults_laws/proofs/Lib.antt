pub mod EveryFault
pub mod FaultOrder
pub mod Listing
pub mod OfEachKind
pub mod sameness_lemmas
pub mod support_lemmas
