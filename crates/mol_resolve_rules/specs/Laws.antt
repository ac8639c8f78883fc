-- The laws of what sources read as.
use Rattle.std.specs.Prelude.{◌≡◌, ◌⊎◌, ◌↔◌, ℕ, IsTrue, Some, Contains}
use Rattle.jav_names.specs.Views.{IsOrdered}
use Rattle.mol_resolve_rules.specs.Expected.{known_of, value_of}
use Rattle.mol_resolve_rules.specs.FaultKinds.{FaultKind}
use Rattle.mol_resolve_rules.specs.FaultLists.{faults_of}
use Rattle.mol_resolve_rules.specs.Files.{File, Files, HasFile}
use Rattle.mol_resolve_rules.specs.Numbering.{Numbered, in_order, id_at}
use Rattle.mol_resolve_rules.specs.ProgramViews.{program_view}
use Rattle.mol_resolve_rules.specs.ReadAs.{HasNoFault, HoldsWhatIsSaid, MethodsByName, IsPlain}
use Rattle.mol_resolve_rules.specs.ResolveFaults.{Fails, HavePathsApart, IsFirstFault}
use Rattle.mol_table_rules.specs.Program.{Program}
use Rattle.mol_values_types.specs.Slots.{has_slot}
use Rattle.mol_values_types.specs.declared.cell.Slot.{Slot}
use Rattle.mol_values_types.specs.declared.known.Known.{Known}
use Rattle.mol_values_types.specs.declared.value.Value.{Value}

-- The view of a program ascends by its keys, so that the rules on names have exactly one answer over it.
pub record ProgramsViewed : Type 0 where
  pub ordered : (program : Program) → IsOrdered (program_view program)

-- No two of what stands in files have one number.
pub record NumbersApart : Type 0 where
  pub apart : (files : Files) (first second : Numbered) → Contains (in_order files) first → Contains (in_order files) second
      → id_at files first ≡ id_at files second → first ≡ second

-- What stands in files is known as something; and where they have no fault there is a value for each slot of it.
pub record ValuesThere : Type 0 where
  pub known : (files : Files) (item : Numbered) → Contains (in_order files) item → (known : Known) × (known_of files item ≡ Some known)
  pub values : (files : Files) → HasNoFault files → (item : Numbered) → Contains (in_order files) item → (slot : Slot)
      → IsTrue (has_slot (known_of files item) slot) → (value : Value) × (value_of files item slot ≡ Some value)

-- Where files have no fault, a program that holds what they say has one method for two declarations exactly where these share it.
pub record MethodsShared : Type 0 where
  pub by_name : (files : Files) (program : Program) → HasNoFault files → HoldsWhatIsSaid files program → MethodsByName files program

-- The lists of faults hold the faults of files. Files have none, or one that is the first; and where their paths differ, no other is.
pub record FirstFaults : Type 0 where
  pub listed : (files : Files) (kind : FaultKind) (number at : ℕ)
      → Fails files kind number at
      ↔ ((file : File) × (HasFile files number file × Contains (faults_of files (number, file)) (record { kind = kind; at = at })))
  pub first : (files : Files)
      → HasNoFault files ⊎ ((kind : FaultKind) × ((number : ℕ) × ((at : ℕ) × IsFirstFault files kind number at)))
  pub unique : (files : Files) → HavePathsApart files → (kind other : FaultKind) (number second at place : ℕ)
      → IsFirstFault files kind number at → IsFirstFault files other second place
      → (kind ≡ other) × (number ≡ second) × (at ≡ place)

-- A program in plain form holds what the files say, and there is at most one program in plain form of the same files.
pub record PlainForms : Type 0 where
  pub holds : (files : Files) (program : Program) → IsPlain files program → HoldsWhatIsSaid files program
  pub unique : (files : Files) (first second : Program) → IsPlain files first → IsPlain files second → first ≡ second
