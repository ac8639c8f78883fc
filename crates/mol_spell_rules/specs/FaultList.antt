-- The faults of a program and their order.
use Rattle.std.specs.Prelude.{◌↔◌, ℕ, List, [], Contains}
use Rattle.std.specs.List.Sorted.{IsStrictlySortedBy}
use Rattle.std.specs.Ordering.{nat_cmp, on, then_cmp}
use Rattle.std.specs.Cmp.Lexicographic.{slice_cmp}
use Rattle.std.specs.declared.cmp.Ordering.{Ordering}
use Rattle.mol_base.specs.Order.{id_cmp}
use Rattle.mol_base.specs.declared.ident.Id.{Id}
use Rattle.mol_spell_rules.specs.references.References.{Target, class_target, field_target, method_target, param_target, default_target, local_target, outside_target}
use Rattle.mol_table_rules.specs.Faults.{SameAddress, Apart, Missing}
use Rattle.mol_table_rules.specs.Program.{Program}
use Rattle.mol_values_types.specs.Order.{slot_number}
use Rattle.mol_values_types.specs.declared.cell.Cell.{Cell}
use Rattle.jav_names.specs.DottedNames.{Name}
use Rattle.mol_spell_rules.specs.NameFaults.{FalseOverride, OutsideName, Misread, LocalClash, PackageIsClass}

-- What the target of a name is in a fault: a class, a field, a method or a parameter by its identity; the default constructor of a class;
-- a local by its number; or what is outside by its text.
pub data FaultTarget : Type 0 where
  entity : Id → FaultTarget
  default_of : Id → FaultTarget
  local_of : ℕ → FaultTarget
  outside_of : Name → FaultTarget

abbrev pub fault_target : Target → FaultTarget
fault_target (class_target class) = entity class
fault_target (field_target field) = entity field
fault_target (method_target method) = entity method
fault_target (param_target param) = entity param
fault_target (default_target class) = default_of class
fault_target (local_target number) = local_of number
fault_target (outside_target text) = outside_of text

pub data Fault : Type 0 where
  same_address : Id → Id → Fault
  false_override : Id → Id → Fault
  apart : Id → Fault
  outside_name : Id → Fault
  missing : Cell → Id → Fault
  misread : Cell → ℕ → FaultTarget → Fault
  local_clash : Cell → Name → Fault
  package_is_class : Id → Id → Fault

-- The program has this fault.
pub data IsFault (program : Program) : Fault → Type 0 where
  by_address : {first second : Id} → SameAddress program first second → IsFault program (same_address first second)
  by_override : {first second : Id} → FalseOverride program first second → IsFault program (false_override first second)
  by_place : {method : Id} → Apart program method → IsFault program (apart method)
  by_outside_name : {method : Id} → OutsideName program method → IsFault program (outside_name method)
  by_absence : {at : Cell} {target : Id} → Missing program at target → IsFault program (missing at target)
  by_reading : {at : Cell} {number : ℕ} {target : Target} → Misread program at number target
      → IsFault program (misread at number (fault_target target))
  by_local : {at : Cell} {name : Name} → LocalClash program at name → IsFault program (local_clash at name)
  by_package : {class inside : Id} → PackageIsClass program class inside → IsFault program (package_is_class class inside)

-- ---- the order

-- What faults are ordered by: their kind in the order above, and then their fields. A field that a kind does not have is the same in all
-- faults of that kind.
pub record FaultKey : Type 0 where
  pub kind : ℕ
  pub first : Id
  pub slot : ℕ
  pub number : ℕ
  pub target : ℕ
  pub second : Id
  pub local : ℕ
  pub text : Name

abbrev pub fault_key_cmp : FaultKey → FaultKey → Ordering
fault_key_cmp = then_cmp (on (λ key. key.kind) nat_cmp) (then_cmp (on (λ key. key.first) id_cmp)
    (then_cmp (on (λ key. key.slot) nat_cmp) (then_cmp (on (λ key. key.number) nat_cmp)
    (then_cmp (on (λ key. key.target) nat_cmp) (then_cmp (on (λ key. key.second) id_cmp)
    (then_cmp (on (λ key. key.local) nat_cmp) (on (λ key. key.text) (slice_cmp nat_cmp))))))))

abbrev pub no_id : Id
no_id = record { tag = []; num = 0 }

-- of two identities
abbrev pub pair_key : ℕ → Id → Id → FaultKey
pair_key kind first second = record {
  kind = kind;
  first = first;
  slot = 0;
  number = 0;
  target = 0;
  second = second;
  local = 0;
  text = [];
}

abbrev pub cell_key : ℕ → Cell → FaultKey
cell_key kind at = record (pair_key kind at.id no_id) { slot = slot_number at.slot }

-- Targets go by their kinds, in the order above, and then by what they are.
abbrev pub target_key : FaultTarget → FaultKey → FaultKey
target_key (entity id) key = record key { second = id }
target_key (default_of class) key = record key { target = 1; second = class }
target_key (local_of number) key = record key { target = 2; local = number }
target_key (outside_of text) key = record key { target = 3; text = text }

abbrev pub fault_key : Fault → FaultKey
fault_key (same_address first second) = pair_key 0 first second
fault_key (false_override first second) = pair_key 1 first second
fault_key (apart method) = pair_key 2 method no_id
fault_key (outside_name method) = pair_key 3 method no_id
fault_key (missing at target) = record (cell_key 4 at) { second = target }
fault_key (misread at number target) = target_key target (record (cell_key 5 at) { number = number })
fault_key (local_clash at name) = record (cell_key 6 at) { text = name }
fault_key (package_is_class class inside) = pair_key 7 class inside

abbrev pub fault_cmp : Fault → Fault → Ordering
fault_cmp = on fault_key fault_key_cmp

-- These are all faults of the program, each once, in order.
pub record AreFaults (program : Program) (faults : List Fault) : Type 0 where
  pub ascending : IsStrictlySortedBy fault_cmp faults
  pub each : (fault : Fault) → Contains faults fault ↔ IsFault program fault
