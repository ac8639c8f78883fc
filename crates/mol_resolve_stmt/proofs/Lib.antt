pub use Rattle.mol_resolve_expr.proofs.Outcomes
pub mod AfterElse
pub mod BlockStatements
pub mod InTurn
pub mod StatementNodes
pub mod Taken
pub mod TreesRead
