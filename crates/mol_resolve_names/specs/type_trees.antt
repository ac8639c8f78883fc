pub use Rattle.mol_resolve_members.specs.numbers.Members
