pub use Rattle.mol_faults_expr.proofs.AnswersTested
pub mod Declared
pub mod InTurn
pub mod Looped
pub mod Noting
pub mod StatementNodes
pub mod ValueParts
