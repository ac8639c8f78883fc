pub use Rattle.mol_spell_rules.specs.SpelledStatements
pub use Rattle.mol_spell_rules.specs.Writers
pub use Rattle.mol_spell_rules.specs.SpelledExpressions
pub mod Calls
pub mod Importables
pub mod Parts
