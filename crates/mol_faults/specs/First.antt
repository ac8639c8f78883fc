-- The first fault of a program.
use Rattle.std.specs.Prelude.{◌≡◌, ◌⊎◌, List, [], ◌∷◌, Option, None, Some}
use Rattle.std.specs.declared.cmp.Ordering.TheVariants.{Less}
use Rattle.mol_spell_rules.specs.Clean.{Clean}
use Rattle.mol_spell_rules.specs.FaultList.{Fault, IsFault, fault_cmp}
use Rattle.mol_table_rules.specs.Program.{Program}

abbrev pub first_of : {X : Type 0} → List X → Option X
first_of [] = None
first_of (x ∷ xs) = Some x

-- The program has this fault, and each other fault of it comes after this one.
pub record IsFirstFault (program : Program) (fault : Fault) : Type 0 where
  pub is : IsFault program fault
  pub before_all : (later : Fault) → IsFault program later → (fault ≡ later) ⊎ (fault_cmp fault later ≡ Less)

-- the first fault, where there is one; a program that has none is clean
abbrev pub IsFirst : Program → Option Fault → Type 0
IsFirst program None = Clean program
IsFirst program (Some fault) = IsFirstFault program fault
