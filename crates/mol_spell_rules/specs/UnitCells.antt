-- The cells whose values a file prints names of, and the references in each.
use Rattle.std.specs.Prelude.{Bool, false, ◌&&◌, List, [], ◌∷◌, ◌++◌, Option, Some, None, if◌then◌else◌}
use Rattle.std.specs.FinMap.{get, entries}
use Rattle.std.specs.List.{flat_map, filter_map}
use Rattle.std.specs.Option.{option_map_or}
use Rattle.mol_base.specs.declared.ident.Id.{Id}
use Rattle.mol_table_rules.specs.Program.{Program, same_id, value_at, living_at, owner_at, cell}
use Rattle.mol_values_types.specs.declared.cell.Cell.{Cell}
use Rattle.mol_values_types.specs.declared.cell.Slot.TheVariants as slots
use Rattle.mol_values_types.specs.declared.iexpr.IExpr.{IExpr}
use Rattle.mol_values_types.specs.declared.itype.IType.{IType}
use Rattle.mol_values_types.specs.declared.known.Known.{Known}
use Rattle.mol_values_types.specs.declared.known.Known.TheVariants as knowns
use Rattle.mol_values_types.specs.declared.param.Param.{Param}
use Rattle.mol_values_types.specs.declared.value.Value.{Value}
use Rattle.mol_values_types.specs.declared.value.Value.TheVariants as values
use Rattle.jav_names.specs.DottedNames.{Names}
use Rattle.mol_resolve_rules.specs.Locals.{no_locals}
use Rattle.mol_resolve_rules.specs.ProgramReaders.{class_reader, declaration_in_class}
use Rattle.mol_resolve_rules.specs.Readers.{Reader}
use Rattle.mol_spell_rules.specs.SpelledExpressions.{alone, spelled_expr}
use Rattle.mol_spell_rules.specs.SpelledStatements.{declared_type, spelled_body}
use Rattle.mol_spell_rules.specs.Writers.{Importable, Writer, Reference}

-- ---- the members of a file

-- whether a field or declaration lives, and its cell `owner` is the class
abbrev pub is_owned_by : Program → Id → Id → Bool
is_owned_by program class id = living_at program id && option_map_or (same_id class) (owner_at program id) false

-- A member of a class: a field or a declaration.
abbrev pub member_in : Program → Id → Id × Known → Option (Id × Known)
member_in program class (id, knowns.Field) = if is_owned_by program class id then Some (id, knowns.Field) else None
member_in program class (id, knowns.Decl method) = if is_owned_by program class id then Some (id, knowns.Decl method) else None
member_in program class entry = None

-- They print in the order of their identities.
abbrev pub members_of : Program → Id → List (Id × Known)
members_of program class = filter_map (member_in program class) (entries program.known)

-- ---- cells

-- What names of a member are printed: those of a field's type and first value; those of the result, the parameters and the body of a
-- declaration.
abbrev pub member_cells : Id × Known → List Cell
member_cells (id, knowns.Field) = cell id slots.Value ∷ []
member_cells (id, knowns.Decl method) = cell method slots.Result ∷ cell method slots.Params ∷ cell id slots.Body ∷ []
member_cells entry = []

-- The cells that print names in the file of a class.
abbrev pub printed_cells : Program → Id → List Cell
printed_cells program class = cell class slots.Super ∷ flat_map member_cells (members_of program class)

-- ---- where their names are read

-- In the body of a declaration the parameters of its method are in scope, in no other cell any are.
abbrev pub reader_as : Program → Names → Id → Option Known → Reader Id Id
reader_as program imports class (Some (knowns.Decl method)) = declaration_in_class program imports method class
reader_as program imports class known = class_reader program imports class

-- The names in a cell, printed in the file of a class with these imports.
abbrev pub cell_reader : Program → Names → Id → Cell → Reader Id Id
cell_reader program imports class at = reader_as program imports class (get program.known at.id)

-- ---- their references

-- where these have simple names
abbrev pub cell_writer : Program → Names → (Importable → Bool) → Id → Cell → Writer
cell_writer program imports is_simple class at = record {
  program = program;
  reader = cell_reader program imports class at;
  is_simple = is_simple;
}

module _ (writer : Writer) where
  abbrev pub type_references : IType → List Reference
  type_references type = (declared_type writer no_locals type).references

  abbrev pub first_value_references : Option IExpr → List Reference
  first_value_references None = []
  first_value_references (Some e) = alone writer no_locals (spelled_expr writer no_locals e)

  -- in the order in which they print
  abbrev pub references_in : Option Value → List Reference
  references_in (Some (values.Super (Some parent))) = type_references parent
  references_in (Some (values.Result type)) = type_references type
  references_in (Some (values.Params params)) = flat_map (λ (param : Param). type_references param.ty) params
  references_in (Some (values.Body (Some body))) = (spelled_body writer body).references
  references_in (Some (values.Value type init)) = type_references type ++ first_value_references init
  references_in value = []

  abbrev pub references_at : Cell → List Reference
  references_at at = references_in (value_at writer.program at.id at.slot)
