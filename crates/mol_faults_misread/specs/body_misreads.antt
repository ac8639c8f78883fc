pub use Rattle.mol_faults_expr.specs.Answers
pub use Rattle.mol_faults_expr.specs.Readings
pub use Rattle.mol_faults_expr.specs.Noted
pub use Rattle.mol_faults_expr.specs.Kept
pub mod CellPlaces
pub mod NotedOn
pub mod PartReferences
