-- The list of the conflicts of two histories.
use Rattle.std.specs.Prelude.{◌≡◌, ◌↔◌, List, []}
use Rattle.mol_faults_rules.specs.declared.conflict.Conflict.{Conflict}
use Rattle.mol_log_rules.specs.Histories.{History}
use Rattle.mol_merge_rules.specs.Conflicts.{AreConflicts}
use Rattle.mol_merge_rules.specs.PairConflicts.{ArePairs}
use Rattle.mol_merge_rules.specs.United.{united}
use Rattle.mol_spell_rules.specs.Clean.{Clean}
use Rattle.mol_table_rules.specs.Program.{Program}

pub record ConflictsDetermined : Type 0 where
  -- there is at most one
  pub unique : (base : Program) (one other : History) (list more : List Conflict) → AreConflicts base one other list
      → AreConflicts base one other more → list ≡ more
  -- it is empty exactly where no entries are in conflict and what both leave is clean
  pub none : (base : Program) (one other : History)
      → AreConflicts base one other [] ↔ (ArePairs base one other [] × Clean (united base one other))
