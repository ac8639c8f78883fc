pub use Rattle.mol_spell_uses.specs.uses.Kept
pub mod Bearers
pub mod Named
