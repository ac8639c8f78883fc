pub use Rattle.mol_resolve_expr.proofs.Outcomes
pub mod MaybeThere
