-- Reading in a program: where trees are read that are handed in for a class, a field or a declaration of it, and the faults between a
-- member that is handed in and those of the program.
use Rattle.std.specs.Prelude.{false, List, [], ◌++◌, map, Option, option_map, if◌then◌else◌, Contains}
use Rattle.std.specs.FinMap.{get}
use Rattle.std.specs.Option.{option_and_then}
use Rattle.mol_base.specs.declared.ident.Id.{Id}
use Rattle.mol_table_rules.specs.Program.{Program, package_at, owner_at, params_at}
use Rattle.mol_values_types.specs.declared.known.Known.{Known}
use Rattle.mol_values_types.specs.declared.param.Param.{Param}
use Rattle.jav_tree.specs.declared.unit.Member.{Member}
use Rattle.jav_names.specs.DottedNames.{Names}
use Rattle.jav_names.specs.LookUps.{is_constructor}
use Rattle.jav_names.specs.OnValues.{is_static_kind}
use Rattle.jav_names.specs.Types.{Header}
use Rattle.jav_names.specs.Views.{ViewClass, ViewField, ViewDeclaration}
use Rattle.mol_resolve_rules.specs.FaultKinds.{FaultKind}
use Rattle.mol_resolve_rules.specs.MemberFaults.{a_field, a_method, a_constructor, Row, row_of, IsBetween}
use Rattle.mol_resolve_rules.specs.ProgramViews.{seen, living_class, kind_in, program_view, method_at, program_ids}
use Rattle.mol_resolve_rules.specs.Readers.{Parameter, Reader}
use Rattle.mol_resolve_rules.specs.ReadTypes.{seen_type}

-- ---- places

-- a class by its identity, if it lives
abbrev pub class_at : Program → Id → Option (ViewClass Id)
class_at program class = option_and_then (λ (known : Known). living_class program (class, known)) (get program.known class)

-- the header of the file of a class, with these imports
abbrev pub class_header : Program → Id → Names → Header Id
class_header program class imports = record {
  own = class_at program class;
  «package» = package_at program class;
  imports = imports;
}

-- in a class, and in none of its methods and constructors
abbrev pub class_reader : Program → Names → Id → Reader Id Id
class_reader program imports class = record {
  view = program_view program;
  ids = program_ids program;
  header = class_header program class imports;
  class = class;
  params = [];
  in_constructor = false;
}

-- in the first value of a field
abbrev pub field_reader : Program → Names → Id → Option (Reader Id Id)
field_reader program imports field = option_map (class_reader program imports) (owner_at program field)

abbrev pub parameter_in : Param → Parameter Id
parameter_in param = record { name = param.name; type = seen param.ty; id = param.id }

abbrev pub declaration_in_class : Program → Names → Id → Id → Reader Id Id
declaration_in_class program imports method class = record (class_reader program imports class) {
  params = map parameter_in (params_at program method);
  in_constructor = is_constructor (kind_in (get program.known method));
}

-- in a declaration, with the parameters of its method
abbrev pub declaration_reader : Program → Names → Id → Option (Reader Id Id)
declaration_reader program imports declaration =
    option_map (declaration_in_class program imports (method_at program declaration)) (owner_at program declaration)

-- ---- members

-- Members of a program have no places among each other.
abbrev pub field_row : ViewField Id Id → Row Id
field_row field = record {
  owner = field.owner;
  place = 0;
  at = 0;
  kind = a_field;
  name = field.name;
  is_static = field.is_static;
  params = [];
  type = field.type;
}

abbrev pub declaration_row : Program → ViewDeclaration Id Id → Row Id
declaration_row program declared = record {
  owner = declared.owner;
  place = 0;
  at = 0;
  kind = if is_constructor declared.kind then a_constructor else a_method;
  name = declared.name;
  is_static = is_static_kind declared.kind;
  params = map (λ (param : Param). seen param.ty) (params_at program (method_at program declared.key));
  type = declared.result;
}

abbrev pub program_rows : Program → List (Row Id)
program_rows program = map field_row (program_view program).fields ++ map (declaration_row program) (program_view program).declarations

-- a member that is handed in for a class, after those that it has
abbrev pub new_row : Program → Names → Id → Member → Row Id
new_row program imports class member = row_of (seen_type (class_reader program imports class)) class (1, member)

-- A fault between a member that is handed in and one of the program, whichever of them is the later one or the descendant's. Its place is
-- that of the new member.
pub data FailsBeside (program : Program) (new : Row Id) : FaultKind → Type 0 where
  new_after : {kind : FaultKind} {old : Row Id} → Contains (program_rows program) old → IsBetween (program_view program) kind old new
      → FailsBeside program new kind
  new_before : {kind : FaultKind} {old : Row Id} → Contains (program_rows program) old → IsBetween (program_view program) kind new old
      → FailsBeside program new kind
