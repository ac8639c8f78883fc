-- What the entries of a log keep to, of whatever kind their operations are.
use Rattle.std.specs.List.{AllByRecursion}
use Rattle.std.specs.Prelude.{◌≡◌, ℕ, List, None}
use Rattle.mol_log_rules.specs.Histories.{Stamped, History}
use Rattle.mol_op.specs.Changes.{written}
use Rattle.mol_op.specs.Entries.{Change}
use Rattle.mol_op.specs.Operation.{Within, AreNamed, StayNew}
use Rattle.mol_table_rules.specs.Program.{Program, Knowns}
use Rattle.mol_table_rules.specs.Rules.{IsProgram}

-- The laws of operations, of one change by an entry of this tag. Where it applies, each identity that it names is known as that, or is not
-- known and has the tag; it applies where more is known, but for its new identities; and it keeps the rules of programs.
pub record IsLawful (tag : List ℕ) (change : Change) : Type 0 where
  pub named : (known : Knowns) → change.fault known ≡ None → AreNamed tag known change.names
  pub grows : (known more : Knowns) → change.fault known ≡ None → Within known more → StayNew known more change.names
      → change.fault more ≡ None
  pub keeps : (program : Program) → IsProgram program → change.fault program.known ≡ None
      → IsProgram (written program change.writes change.names)

-- each entry, by the tag of its stamp
abbrev pub AreLawful : History → Type 0
AreLawful = AllByRecursion (λ (entry : Stamped). IsLawful entry.stamp.tag entry.change)
