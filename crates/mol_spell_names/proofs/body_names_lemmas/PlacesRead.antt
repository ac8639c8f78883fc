-- Where variables are read, as the code has it.
use Rattle.std.proofs.Common.{◌≡◌, Bool, List, [], ◌∷◌, map, Option, None, Some, refl, sym, ap, ◌∙◌}
use Rattle.std.specs.FinMap.{get}
use Rattle.jav_names.specs.DottedNames.{Names}
use Rattle.jav_names.specs.Variables.{Place}
use Rattle.mol_base.specs.declared.ident.Id.{Id}
use Rattle.mol_spell_names.specs.body_names.FilePlaces.{declared_in, param_names_in, reader_in, writer_of}
use Rattle.mol_resolve_rules.specs.Locals.{Locals, names_in_scope}
use Rattle.mol_resolve_rules.specs.ProgramReaders.{class_header, parameter_in}
use Rattle.mol_resolve_rules.specs.ProgramViews.{program_view}
use Rattle.mol_resolve_rules.specs.Readers.{Parameter, place_of}
use Rattle.mol_spell_rules.specs.UnitCells.{cell_writer, reader_as}
use Rattle.mol_spell_rules.specs.Writers.{Importable, Writer}
use Rattle.mol_table_rules.specs.Program.{Program, cell, params_at}
use Rattle.mol_values_types.specs.declared.cell.Slot.{Slot}
use Rattle.mol_values_types.specs.declared.known.Known.{Known}
use Rattle.mol_values_types.specs.declared.known.Known.TheVariants as knowns
use Rattle.mol_values_types.specs.declared.param.Param.{Param}

names-alike : (params : List Param) → map (λ (p : Parameter Id). p.name) (map parameter_in params) ≡ map (λ (p : Param). p.name) params
names-alike [] = refl
names-alike (p ∷ ps) = ap (λ names. p.name ∷ names) (names-alike ps)

module _ (program : Program) (imports : Names) (class : Id) where
  pub view-is : (method : Option Id) → program_view program ≡ (reader_in program imports class method).view
  view-is None = refl
  view-is (Some method) = refl

  pub place-is : (method : Option Id) (locals : Locals Id) (names params : Names) → names ≡ names_in_scope locals
      → params ≡ param_names_in program method
      → ◌≡◌ {A = Place Id} (record { header = class_header program class imports; class = class; locals = names; params = params })
      (place_of (reader_in program imports class method) locals)
  place-is None locals names params is are = λ i.
      record { header = class_header program class imports; class = class; locals = is i; params = are i }
  place-is (Some method) locals names params is are = λ i. record {
    header = class_header program class imports;
    class = class;
    locals = is i;
    params = (are ∙ sym (names-alike (params_at program method))) i;
  }

-- the place of an entity
pub writer-is : (program : Program) (imports : Names) (is_simple : Importable → Bool) (class id : Id) (method : Option Id) (slot : Slot)
    → method ≡ declared_in (get program.known id)
    → writer_of program imports is_simple class method ≡ cell_writer program imports is_simple class (cell id slot)
writer-is program imports is_simple class id method slot is =
    ap (writer_of program imports is_simple class) is ∙ same-writer (get program.known id)
  where
    same-writer : (known : Option Known) → ◌≡◌ {A = Writer} (writer_of program imports is_simple class (declared_in known))
        (record { program = program; reader = reader_as program imports class known; is_simple = is_simple })
    same-writer None = refl
    same-writer (Some knowns.Class) = refl
    same-writer (Some (knowns.Method kind)) = refl
    same-writer (Some (knowns.Decl own)) = refl
    same-writer (Some knowns.Field) = refl
    same-writer (Some (knowns.Param own)) = refl
