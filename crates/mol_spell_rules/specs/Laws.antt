-- The laws of programs as they are written, and of their faults.
use Rattle.std.specs.Prelude.{◌≡◌, ◌↔◌, IsTrue, List, [], map, Option, Contains}
use Rattle.std.specs.List.Sorted.{IsStrictlySortedBy}
use Rattle.std.specs.Option.{option_map_or}
use Rattle.std.specs.Ordering.{on}
use Rattle.mol_base.specs.declared.ident.Id.{Id}
use Rattle.mol_spell_rules.specs.references.References.{references}
use Rattle.mol_resolve_rules.specs.Locals.{Local, Locals}
use Rattle.mol_resolve_rules.specs.StaticTypes.{static_type_of}
use Rattle.mol_table_rules.specs.Program.{Program}
use Rattle.mol_table_rules.specs.Renumber.{is_living_class}
use Rattle.mol_values_types.specs.declared.iexpr.IExpr.{IExpr}
use Rattle.mol_values_types.specs.declared.value.Value.{Value}
use Rattle.mol_spell_rules.specs.Clean.{Clean}
use Rattle.mol_spell_rules.specs.FaultList.{Fault, AreFaults}
use Rattle.mol_spell_rules.specs.SpelledExpressions.{spelled_expr}
use Rattle.mol_spell_rules.specs.SpelledUnits.{UnitKey, unit_key_cmp, SpelledUnit, spelled_unit, units_of}
use Rattle.mol_spell_rules.specs.UnitCells.{references_in}
use Rattle.mol_spell_rules.specs.Writers.{Writer, Reference}

abbrev pub key_of : SpelledUnit → UnitKey
key_of unit = record { path = unit.path; class = unit.class }

-- The file of a class that lives.
pub record IsSpelled (program : Program) (unit : SpelledUnit) : Type 0 where
  pub class : Id
  pub lives : IsTrue (is_living_class program class)
  pub is : unit ≡ spelled_unit program class

-- The files of a program ascend by path, and those of one path by class; there is one for each class that lives.
pub record FilesInOrder : Type 0 where
  pub ascending : (program : Program) → IsStrictlySortedBy (on key_of unit_key_cmp) (units_of program)
  pub each : (program : Program) (unit : SpelledUnit) → Contains (units_of program) unit ↔ IsSpelled program unit

-- Whatever file a value prints in, its references have the same targets in the same order: those of the value.
pub record TargetsAlike : Type 0 where
  pub values : (writer : Writer) (value : Option Value)
      → map (λ (reference : Reference). reference.target) (references_in writer value) ≡ option_map_or references value []

-- The static type by which members of an expression are asked for is that of the expression in the program.
pub record TypesAlike : Type 0 where
  pub expressions : (writer : Writer) (locals : Locals Id) (e : IExpr)
      → (spelled_expr writer locals e).static_type
      ≡ static_type_of writer.program writer.reader.class (map (λ (local : Local Id). local.type) locals.declared) e

-- There is at most one list of the faults of a program, and it is empty exactly where the program is clean.
pub record FaultsDetermined : Type 0 where
  pub unique : (program : Program) (first second : List Fault) → AreFaults program first → AreFaults program second → first ≡ second
  pub clean : (program : Program) (faults : List Fault) → AreFaults program faults → (faults ≡ []) ↔ Clean program
