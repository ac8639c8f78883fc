-- The members of a program, collected for indexes.
use Rattle.std.specs.Prelude.{◌≡◌, List, ◌++◌, map, filter_map, Option, option_map}
use Rattle.std.specs.FinMap.{entries}
use Rattle.std.specs.Option.{option_and_then, option_to_list}
use Rattle.jav_names.specs.Views.{ViewField, ViewDeclaration}
use Rattle.mol_base.specs.declared.ident.Id.{Id}
use Rattle.jav_names.specs.declared.id_index.entry.Entry.{Entry}
use Rattle.mol_resolve_rules.specs.ProgramViews.{living_field, living_declaration, program_view}
use Rattle.mol_table_rules.specs.Program.{Program}
use Rattle.mol_values_types.specs.declared.known.Known.{Known}
use Rattle.mol_scope_members.specs.declaring.MemberEntries.{field_entry, listed_method, listed_constructor, listed_owner, declaring_entry}
use Rattle.mol_scope_members.specs.declaring.Owners.{field_row, method_row, row_of}
use Rattle.mol_scope_members.specs.declared.declaring.collected.Collected.{Collected}

-- What is collected of these fields and declarations that live, and of these entries of declarations by their methods.
pub record Collects (collected : Collected) (living_fields : List (ViewField Id Id)) (living : List (ViewDeclaration Id Id))
    (declaring : List Entry) : Type 0 where
  pub fields : collected.fields.items ≡ map field_entry living_fields
  pub methods : collected.methods.items ≡ filter_map listed_method living
  pub constructors : collected.constructors.items ≡ filter_map listed_constructor living
  pub constructed : collected.constructed.items ≡ filter_map listed_owner living
  pub declared : collected.declared.items ≡ declaring
  pub field_owners : map row_of collected.field_owners.items ≡ map field_row living_fields
  pub method_owners : map row_of collected.method_owners.items ≡ filter_map method_row living

-- All members of a program are collected.
abbrev pub AreCollected : Collected → Program → Type 0
AreCollected collected program =
    Collects collected (program_view program).fields (program_view program).declarations (filter_map declaring_entry (entries program.known))

-- One more is collected: a field that lives, a declaration that lives, an entry of a declaration by its method, each if there is one.
pub record Adds (old new : Collected) (field : Option (ViewField Id Id)) (living : Option (ViewDeclaration Id Id))
    (declaring : Option Entry) : Type 0 where
  pub fields : new.fields.items ≡ old.fields.items ++ option_to_list (option_map field_entry field)
  pub methods : new.methods.items ≡ old.methods.items ++ option_to_list (option_and_then listed_method living)
  pub constructors : new.constructors.items ≡ old.constructors.items ++ option_to_list (option_and_then listed_constructor living)
  pub constructed : new.constructed.items ≡ old.constructed.items ++ option_to_list (option_and_then listed_owner living)
  pub declared : new.declared.items ≡ old.declared.items ++ option_to_list declaring
  pub field_owners : map row_of new.field_owners.items ≡ map row_of old.field_owners.items ++ option_to_list (option_map field_row field)
  pub method_owners : map row_of new.method_owners.items
      ≡ map row_of old.method_owners.items ++ option_to_list (option_and_then method_row living)

-- What an identity is is collected, by what it is known as.
abbrev pub AddsKnown : Collected → Collected → Program → Id → Option Known → Type 0
AddsKnown old new program id known =
    Adds old new (option_and_then (λ (what : Known). living_field program (id, what)) known)
    (option_and_then (λ (what : Known). living_declaration program (id, what)) known)
    (option_and_then (λ (what : Known). declaring_entry (id, what)) known)
