pub mod TopmostDeclarations
pub mod HighestNoted
pub mod TopmostFound
