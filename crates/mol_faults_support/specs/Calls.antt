-- What a value calls, and whose constructors it asks for.
use Rattle.std.specs.Prelude.{◌↔◌, List, Option, None, Some, Contains}
use Rattle.mol_base.specs.declared.ident.Id.{Id}
use Rattle.mol_spell_rules.specs.DefaultCreations.{default_creations}
use Rattle.mol_spell_rules.specs.Support.{IsConstructorOf}
use Rattle.mol_table_rules.specs.Mentions.{Role, Mention, a_called_method, a_static_method, a_constructor}
use Rattle.mol_table_rules.specs.Program.{Program}
use Rattle.mol_values_types.specs.declared.value.Value.{Value}

abbrev pub called_as : Role → Id → Option Id
called_as a_called_method id = Some id
called_as a_static_method id = Some id
called_as a_constructor id = Some id
called_as role id = None

-- the method or constructor, if this is a call of one
abbrev pub called_by : Mention → Option Id
called_by mention = called_as mention.role mention.id

-- These are the known declarations of constructors of the classes that a value creates by their default constructors.
abbrev pub AreConstructors : Program → Value → List Id → Type 0
AreConstructors program value found = (id : Id)
    → Contains found id ↔ ((class : Id) × Contains (default_creations value) class × IsConstructorOf program class id)
