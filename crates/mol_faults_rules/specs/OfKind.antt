-- The faults of one kind, and of all.
use Rattle.std.specs.Prelude.{◌≡◌, ◌↔◌, ℕ, ◌+◌, List, [], ◌∷◌, map, Contains}
use Rattle.std.specs.List.{flat_map}
use Rattle.std.specs.List.Sorted.{IsStrictlySortedBy}
use Rattle.mol_faults_rules.specs.Kept.{kept_fault}
use Rattle.mol_faults_rules.specs.declared.fault.Fault.{Fault as Kept}
use Rattle.mol_spell_rules.specs.FaultList.{Fault, IsFault, fault_key, fault_cmp, AreFaults}
use Rattle.mol_table_rules.specs.Program.{Program}

-- These are all faults of one kind of a program, each once, in order. Kinds have the numbers of `fault_key`.
pub record AreOfKind (program : Program) (kind : ℕ) (faults : List Fault) : Type 0 where
  pub ascending : IsStrictlySortedBy fault_cmp faults
  pub each : (fault : Fault) → Contains faults fault ↔ (IsFault program fault × ((fault_key fault).kind ≡ kind))

-- the same of a list that the code keeps
abbrev pub AreAllOfKind : Program → ℕ → List Kept → Type 0
AreAllOfKind program kind faults = AreOfKind program kind (map kept_fault faults)

-- how many kinds there are
abbrev pub kinds : ℕ
kinds = 8

-- lists for this kind and for each that follows
abbrev pub AreByKind : Program → ℕ → List (List Fault) → Type 0
AreByKind program kind [] = kind ≡ kinds
AreByKind program kind (faults ∷ rest) = AreOfKind program kind faults × AreByKind program (kind + 1) rest

abbrev pub FaultsByKind : Type 0
FaultsByKind = (program : Program) (lists : List (List Fault)) → AreByKind program 0 lists
    → AreFaults program (flat_map (λ faults. faults) lists)
