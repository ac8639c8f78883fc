pub use Rattle.mol_resolve_members.specs.members.Rows
pub mod Variables
