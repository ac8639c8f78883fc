-- Declarations of several methods, and of the constructors of several classes.
use Rattle.std.specs.Prelude.{◌↔◌, List, Contains}
use Rattle.mol_base.specs.declared.ident.Id.{Id}
use Rattle.mol_spell_rules.specs.Support.{IsDeclarationOf, IsConstructorOf}
use Rattle.mol_table_rules.specs.Program.{Program}

-- These are the known declarations of the methods.
abbrev pub DeclaresAny : Program → List Id → List Id → Type 0
DeclaresAny program methods found =
    (id : Id) → Contains found id ↔ ((method : Id) × Contains methods method × IsDeclarationOf program method id)

-- These are the known declarations of constructors of the classes.
abbrev pub ConstructsAny : Program → List Id → List Id → Type 0
ConstructsAny program classes found =
    (id : Id) → Contains found id ↔ ((class : Id) × Contains classes class × IsConstructorOf program class id)

-- Two lists have the same identities.
abbrev pub AreSame : List Id → List Id → Type 0
AreSame first second = (id : Id) → Contains first id ↔ Contains second id
