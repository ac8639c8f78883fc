pub use Rattle.mol_resolve_rules.proofs.Stands
