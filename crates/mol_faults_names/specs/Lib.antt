pub use Rattle.mol_scope.specs.declared.asked.place.NamePlace
pub use Rattle.mol_scope.specs.asked.Places
pub use Rattle.mol_scope.specs.asked.Answers
pub mod Kept
pub mod Reads
