pub use Rattle.mol_scope_members.proofs.inherited_lemmas.SupersFound
pub use Rattle.mol_scope_members.proofs.inherited_lemmas.Reached
pub mod NoField
pub mod VariablesFound
