-- Where the names of a cell are read, by what is in scope there.
use Rattle.std.proofs.Common.{◌≡◌, Bool, List, [], ◌∷◌, map, Option, None, Some, refl, sym, ap, ◌∙◌}
use Rattle.std.specs.FinMap.{get}
use Rattle.jav_names.specs.DottedNames.{Names}
use Rattle.mol_base.specs.declared.ident.Id.{Id}
use Rattle.mol_faults_misread.specs.body_misreads.CellPlaces.{IsReadAt, reader_at}
use Rattle.mol_faults_misread.specs.declared.body_misreads.cell_place.CellPlace.{CellPlace}
use Rattle.mol_spell_names.specs.body_names.FilePlaces.{param_names_in, reader_in, writer_of}
use Rattle.mol_faults_misread.specs.misread_faults.Scopes.{in_constructor, params_in}
use Rattle.mol_resolve_rules.specs.ProgramReaders.{class_reader, parameter_in}
use Rattle.mol_resolve_rules.specs.Readers.{Parameter, param_names}
use Rattle.mol_spell_rules.specs.UnitCells.{cell_reader, cell_writer, reader_as}
use Rattle.mol_spell_rules.specs.Writers.{Importable, Writer}
use Rattle.mol_table_rules.specs.Program.{Program, params_at}
use Rattle.mol_values_types.specs.declared.cell.Cell.{Cell}
use Rattle.mol_values_types.specs.declared.known.Known.{Known}
use Rattle.mol_values_types.specs.declared.known.Known.TheVariants as knowns
use Rattle.mol_values_types.specs.declared.param.Param.{Param}

module _ (program : Program) (imports : Names) (class : Id) where
  -- the reader in a scope
  reader-scoped : (known : Option Known) → reader_as program imports class known ≡ record (class_reader program imports class) {
    params = map parameter_in (params_in program known);
    in_constructor = in_constructor program known;
  }
  reader-scoped None = refl
  reader-scoped (Some knowns.Class) = refl
  reader-scoped (Some knowns.Field) = refl
  reader-scoped (Some (knowns.Method kind)) = refl
  reader-scoped (Some (knowns.Decl method)) = refl
  reader-scoped (Some (knowns.Param method)) = refl

  named-alike : (params : List Param)
      → map (λ (param : Param). param.name) params ≡ map (λ (param : Parameter Id). param.name) (map parameter_in params)
  named-alike [] = refl
  named-alike (param ∷ params) = ap (λ names. param.name ∷ names) (named-alike params)

  names-in : (method : Option Id) → param_names_in program method ≡ param_names (reader_in program imports class method)
  names-in None = refl
  names-in (Some method) = named-alike (params_at program method)

-- A cell that is written in the file of a class is read at this place, with the parameters that are in scope. What the code keeps of the
-- place of writing is the same.
pub cell-read : (kept : Program) (kept_imports : Names) (kept_simple : Importable → Bool) (kept_class : Id) (method : Option Id)
    (place : CellPlace) (program : Program) (imports : Names) (is_simple : Importable → Bool) (class : Id) (at : Cell)
    → writer_of kept kept_imports kept_simple kept_class method ≡ cell_writer program imports is_simple class at
    → place.members.now ≡ program → place.class ≡ class → place.imports.now ≡ imports
    → place.params.now ≡ params_in program (get program.known at.id)
    → place.in_constructor ≡ in_constructor program (get program.known at.id) → place.param_names.now ≡ param_names_in kept method
    → IsReadAt (writer_of kept kept_imports kept_simple kept_class method) place
cell-read kept kept_imports kept_simple kept_class method place program imports is_simple class at written members own imported params
    constructor named =
    let scoped : cell_reader program imports class at ≡ reader_at place =
    reader-scoped program imports class (get program.known at.id)
    ∙ (λ i. record (class_reader (sym members i) (sym imported i) (sym own i)) {
      params = map parameter_in (sym params i);
      in_constructor = sym constructor i;
    })
    in
    let read : reader_in kept kept_imports kept_class method ≡ reader_at place =
    ap (λ (writer : Writer). writer.reader) written ∙ scoped
    in
    record {
      program = ap (λ (writer : Writer). writer.program) written ∙ sym members;
      reader = read;
      params = named ∙ names-in kept kept_imports kept_class method ∙ ap param_names read;
    }
