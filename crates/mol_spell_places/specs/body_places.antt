pub use Rattle.mol_spell_expr.specs.Importables
pub mod Statements
