-- The classes one above another, and how many they are.
use Rattle.std.specs.Prelude.{◌≡◌, ℕ, zero, suc, List, [], ◌∷◌, Option, None, Some}
use Rattle.mol_base.specs.declared.ident.Id.{Id}
use Rattle.mol_table_rules.specs.Ancestors.{living_parent}
use Rattle.mol_table_rules.specs.Program.{Program, parent_at}

-- the superclass of a class, where that is a class of the program and lives
abbrev pub upward : Program → Option Id → Option Id
upward program None = None
upward program (Some class) = living_parent program (parent_at program class)

-- the class that is reached in so many steps
abbrev pub climb : Program → ℕ → Option Id → Option Id
climb program zero at = at
climb program (suc steps) at = climb program steps (upward program at)

-- how many classes there are from one on upwards, of at most so many
abbrev pub height : Program → ℕ → Option Id → ℕ
height program zero at = 0
height program (suc steps) None = 0
height program (suc steps) (Some class) = suc (height program steps (upward program (Some class)))

-- each class is the superclass of the one before it; the first is `start`, and the superclass of the last is `at`
abbrev pub Leads : Program → Option Id → List Id → Option Id → Type 0
Leads program start [] at = start ≡ at
Leads program start (class ∷ classes) at = (start ≡ Some class) × Leads program (upward program start) classes at
