-- The conflicts of two logs can be listed, and name both sides.
use Rattle.std.specs.Prelude.{IsFalse, List, Contains}
use Rattle.mol_faults_rules.specs.declared.conflict.Conflict.{Conflict}
use Rattle.mol_log.specs.declared.log.Log.{Log}
use Rattle.mol_log_rules.specs.Histories.{History, after}
use Rattle.mol_log_rules.specs.Living.{HasNoDead}
use Rattle.mol_log_rules.specs.Logs.{history}
use Rattle.mol_merge_laws.specs.OrderLaws.{BothApply}
use Rattle.mol_merge_rules.specs.Conflicts.{AreConflicts, NamesBoth, is_misread}
use Rattle.mol_merge_rules.specs.TwoLogs.{greater, lesser}
use Rattle.mol_spell_rules.specs.Clean.{Clean}
use Rattle.mol_table_rules.specs.Program.{Program}
use Rattle.mol_table_rules.specs.Rules.{IsProgram}

pub record ConflictsListed : Type 0 where
  -- two histories over a base, whichever they are, have a list of all their conflicts
  pub listed : (base : Program) (one other : History) → (list : List Conflict) × AreConflicts base one other list

-- Two logs that share no tag and apply to a base without dead entities. What each of them leaves is clean.
pub record BothLeaveClean (base : Program) (one other : Log) : Type 0 where
  pub rules : IsProgram base
  pub alive : HasNoDead base
  pub both : BothApply base one other
  pub clean_one : Clean (after base (history one))
  pub clean_other : Clean (after base (history other))

pub record ConflictsNameBoth : Type 0 where
  -- Each of their conflicts names an entry of each, but for a name that is misread: that may come of what one log did alone.
  pub named : (base : Program) (one other : Log) (list : List Conflict) (conflict : Conflict) → BothLeaveClean base one other
      → AreConflicts base (history one) (history other) list → Contains list conflict → IsFalse (is_misread conflict.kind)
      → NamesBoth (history one) (history other) conflict
  -- so it is of two logs whose conflicts are said of the one with the lesser first tag and the other
  pub in_either_order : (base : Program) (first second : Log) (list : List Conflict) (conflict : Conflict)
      → BothLeaveClean base first second
      → AreConflicts base (history (lesser first second)) (history (greater first second)) list → Contains list conflict
      → IsFalse (is_misread conflict.kind) → NamesBoth (history first) (history second) conflict
