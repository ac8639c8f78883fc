-- What is misread in the files of a program, each time that it is.
use Rattle.std.specs.Prelude.{◌≡◌, ◌==◌, ◌&&◌, ◌↔◌, ℕ, Bool, false, List, [], map, if◌then◌else◌, Contains}
use Rattle.std.specs.List.{flat_map}
use Rattle.std.specs.List.Sorted.{IsStrictlySortedBy}
use Rattle.std.specs.Option.{option_and_then}
use Rattle.std.specs.Ordering.{eq_by_cmp}
use Rattle.std.specs.Str.{bytes_eq}
use Rattle.jav_names.specs.DottedNames.{Names}
use Rattle.mol_base.specs.declared.ident.Id.{Id}
use Rattle.mol_faults_expr.specs.Kept.{kept_misread}
use Rattle.mol_faults_expr.specs.Noted.{Misreading, none_noted, noted_after}
use Rattle.mol_faults_expr.specs.Readings.{program_target}
use Rattle.mol_faults_misread.specs.declared.misread_faults.names.MisreadName.{MisreadName}
use Rattle.mol_faults_misread.specs.declared.misread_faults.row.Row.{Row}
use Rattle.mol_faults_misread.specs.declared.misread_faults.row.Named.{Named}
use Rattle.mol_faults_misread.specs.declared.misread_faults.row.Named.TheVariants as named
use Rattle.mol_spell_rules.specs.references.References.{Target}
use Rattle.mol_spell_rules.specs.FaultList.{Fault, FaultTarget, entity, default_of, fault_cmp, fault_target, local_of, outside_of, misread}
use Rattle.mol_spell_rules.specs.NameFaults.{unit_reader, MisreadIn}
use Rattle.mol_spell_rules.specs.ReadInstead.{instead}
use Rattle.mol_spell_rules.specs.SimpleNames.{imports_in, is_simple_in}
use Rattle.mol_spell_rules.specs.UnitCells.{cell_writer, member_cells, printed_cells, references_at}
use Rattle.mol_spell_rules.specs.Writers.{Importable, Writer}
use Rattle.mol_table_rules.specs.Program.{Program, same_id}
use Rattle.mol_table_rules.specs.Renumber.{is_living_class}
use Rattle.mol_values_types.specs.Order.{cell_cmp}
use Rattle.mol_values_types.specs.declared.cell.Cell.{Cell}
use Rattle.mol_values_types.specs.declared.known.Known.{Known}

-- ---- rows

abbrev pub named_of : Named → FaultTarget
named_of (named.Entity id) = entity id
named_of (named.Default class) = default_of class
named_of (named.Local number) = local_of number
named_of (named.Outside text) = outside_of text

abbrev pub fault_of : Row → Fault
fault_of row = misread row.at row.number (named_of row.target)

-- ---- what is misread

-- a name in a cell
pub record Found : Type 0 where
  pub at : Cell
  pub name : Misreading

abbrev pub found_at : Cell → Misreading → Found
found_at at name = record { at = at; name = name }

abbrev pub kept_name : MisreadName → Found
kept_name kept = found_at kept.at (kept_misread kept.misread)

-- as a fault
abbrev pub fault_in : Found → Fault
fault_in found = misread found.at found.name.number found.name.target

abbrev pub same_target : FaultTarget → FaultTarget → Bool
same_target (entity first) (entity second) = same_id first second
same_target (default_of first) (default_of second) = same_id first second
same_target (local_of first) (local_of second) = first == second
same_target (outside_of first) (outside_of second) = bytes_eq first second
same_target first second = false

-- the name of this number in a cell, with this target
abbrev pub is_name : Cell → ℕ → FaultTarget → Found → Bool
is_name at number target found =
    eq_by_cmp cell_cmp at found.at && ((number == found.name.number) && same_target target found.name.target)

-- In the file of a living class a name of the program is misread, and this is it.
pub record IsMisread (program : Program) (found : Found) : Type 0 where
  pub class : Id
  pub target : Target
  pub misread : MisreadIn program class found.at found.name.number target
  pub is_target : fault_target target ≡ found.name.target
  pub is_named : program_target target ≡ found.name.named
  pub is_instead : option_and_then program_target (instead (unit_reader program class found.at) misread.reference) ≡ found.name.instead

-- It is a fault of a name that is misread in a file of the program.
pub record IsMisreadAs (program : Program) (fault : Fault) : Type 0 where
  pub found : Found
  pub misread : IsMisread program found
  pub is : fault_in found ≡ fault

-- These are the faults of all names that are misread in the files of a program as it stands, each once, in order.
pub record AreMisread (program : Program) (faults : List Fault) : Type 0 where
  pub ascending : IsStrictlySortedBy fault_cmp faults
  pub each : (fault : Fault) → Contains faults fault ↔ IsMisreadAs program fault

-- ---- one after the other

-- in a cell, written so
abbrev pub written_misreads : Writer → Cell → List Found
written_misreads writer at = map (found_at at) (noted_after writer none_noted (references_at writer at)).misread

-- in the file of a class, with these imports, where these have simple names
module _ (program : Program) (imports : Names) (is_simple : Importable → Bool) (class : Id) where
  abbrev pub cell_misreads : Cell → List Found
  cell_misreads at = written_misreads (cell_writer program imports is_simple class at) at

  abbrev pub cells_misreads : List Cell → List Found
  cells_misreads cells = flat_map cell_misreads cells

  abbrev pub member_misreads : Id × Known → List Found
  member_misreads member = cells_misreads (member_cells member)

  abbrev pub members_misreads : List (Id × Known) → List Found
  members_misreads members = flat_map member_misreads members

-- in the file of a class
abbrev pub file_misreads : Program → Id → List Found
file_misreads program class =
    cells_misreads program (imports_in program class) (is_simple_in program class) class (printed_cells program class)

-- of a class that lives
abbrev pub class_misreads : Program → Id → List Found
class_misreads program id = if is_living_class program id then file_misreads program id else []

abbrev pub all_misreads : Program → List Id → List Found
all_misreads program ids = flat_map (class_misreads program) ids
