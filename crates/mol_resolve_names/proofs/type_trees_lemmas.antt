pub use Rattle.mol_resolve_members.proofs.numbers_lemmas.MemberKeys
pub mod NamesTyped
pub mod PrimitiveNames
pub mod TypesRead
