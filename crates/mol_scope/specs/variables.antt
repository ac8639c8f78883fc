pub use Rattle.mol_scope_members.specs.declaring.Indexed
pub mod Keys
