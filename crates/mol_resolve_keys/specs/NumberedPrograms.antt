-- A program with numbers in place of identities, as source files have them.
use Rattle.std.specs.Prelude.{ℕ, [], map, option_map, slice_get, unwrap_or}
use Rattle.std.specs.FinMap.{keys}
use Rattle.std.specs.Option.{option_and_then}
use Rattle.std.specs.Ordering.{nat_cmp}
use Rattle.mol_base.specs.Order.{id_cmp}
use Rattle.mol_base.specs.declared.ident.Id.{Id}
use Rattle.jav_names.specs.UnitViews.{MemberKey, member_key_cmp}
use Rattle.jav_names.specs.Views.{View}
use Rattle.jav_names_laws.specs.Keys.{Keys, type_as, class_as, header_as, field_as, declaration_as}
use Rattle.jav_names_laws.specs.Numbered.{pair_number, list_number, number_among}
use Rattle.mol_resolve_rules.specs.ProgramViews.{superclass_at, program_view, method_at}
use Rattle.mol_resolve_rules.specs.Readers.{Ids, Parameter, Reader}
use Rattle.mol_table_rules.specs.Program.{Program, params_at}
use Rattle.mol_values_types.specs.declared.param.Param.{Param}

-- ---- numbers

-- a number for each identity, so that no two have one
abbrev pub id_number : Id → ℕ
id_number id = pair_number id.num (list_number id.tag)

-- The place of an identity among all that is known, in order. One that is not known has a number past them.
abbrev pub number_of : Program → Id → ℕ
number_of program = number_among id_cmp id_number (keys program.known)

-- for numbers past the end
abbrev pub no_id : Id
no_id = record { tag = []; num = 0 }

abbrev pub identity_at : Program → ℕ → Id
identity_at program number = unwrap_or (slice_get (keys program.known) number) no_id

abbrev pub keys_of : Program → Keys Id Id ℕ MemberKey
keys_of program = record {
  class = number_of program;
  member = λ id. record { unit = 0; member = number_of program id };
}

-- ---- what trees are read among

-- The view of the program with numbers as keys. A number extends what the identity at its place extends, and nothing past the end.
abbrev pub numbered_view : Program → View ℕ MemberKey
numbered_view program = record {
  classes = record { cmp = nat_cmp; items = map (class_as (number_of program)) (program_view program).classes.items };
  member_cmp = member_key_cmp;
  fields = map (field_as (keys_of program)) (program_view program).fields;
  declarations = map (declaration_as (keys_of program)) (program_view program).declarations;
  superclass = λ number. option_map (type_as (number_of program))
      (option_and_then (superclass_at program) (slice_get (keys program.known) number));
}

abbrev pub numbered_ids : Program → Ids ℕ MemberKey
numbered_ids program = record {
  class_id = identity_at program;
  member_id = λ key. identity_at program key.member;
  method_id = λ declared. method_at program (identity_at program declared.key.member);
  param_ids = λ declared.
      map (λ (param : Param). param.id) (params_at program (method_at program (identity_at program declared.key.member)));
}

abbrev pub parameter_as : {C D : Type 0} → (C → D) → Parameter C → Parameter D
parameter_as key param = record { name = param.name; type = type_as key param.type; id = param.id }

-- a place in a program, with numbers in place of identities
abbrev pub numbered : Program → Reader Id Id → Reader ℕ MemberKey
numbered program reader = record {
  view = numbered_view program;
  ids = numbered_ids program;
  header = header_as (number_of program) reader.header;
  class = number_of program reader.class;
  params = map (parameter_as (number_of program)) reader.params;
  in_constructor = reader.in_constructor;
}
