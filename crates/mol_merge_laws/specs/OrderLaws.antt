-- The entries of two logs in every order.
use Rattle.std.specs.FinMap.{get}
use Rattle.std.specs.Prelude.{◌≡◌, List, [], ◌++◌}
use Rattle.mol_base.specs.declared.ident.Id.{Id}
use Rattle.mol_log.specs.declared.entries.entry.Entry.{Entry}
use Rattle.mol_log.specs.declared.log.Log.{Log}
use Rattle.mol_log_rules.specs.Histories.{AppliesOn, after}
use Rattle.mol_log_rules.specs.Living.{HasNoDead}
use Rattle.mol_log_rules.specs.Logs.{history, history_of}
use Rattle.mol_merge_rules.specs.Interleavings.{Interleaves}
use Rattle.mol_merge_rules.specs.PairConflicts.{ArePairs}
use Rattle.mol_merge_rules.specs.TwoLogs.{lesser, greater, ShareNoTag}
use Rattle.mol_merge_rules.specs.United.{united}
use Rattle.mol_table_rules.specs.Program.{Program}
use Rattle.mol_table_rules.specs.Rules.{IsProgram}
use Rattle.mol_table_rules.specs.Sameness.{Same}

-- both logs apply to the base, and they share no tag
pub record BothApply (base : Program) (one other : Log) : Type 0 where
  pub first : AppliesOn base (history one)
  pub second : AppliesOn base (history other)
  pub apart : ShareNoTag one other

-- an order of the entries of both, which takes those of each in their own order
pub record IsOrder (base : Program) (one other : Log) (entries : List Entry) : Type 0 where
  pub both : BothApply base one other
  pub order : Interleaves one.entries other.entries entries

-- no entries of the two are in conflict
abbrev pub HaveNoPairs : Program → Log → Log → Type 0
HaveNoPairs base one other = ArePairs base (history (lesser one other)) (history (greater one other)) []

-- what the log of the lesser first tag leaves and then the other
abbrev pub left_by_both : Program → Log → Log → Program
left_by_both base one other = united base (history (lesser one other)) (history (greater one other))

pub record EveryOrder : Type 0 where
  -- each entry applies to what those before it leave
  pub applies : (base : Program) (one other : Log) (entries : List Entry) → IsOrder base one other entries
      → AppliesOn base (history_of entries)
  -- what is left keeps the rules of programs, if the base does
  pub rules : (base : Program) (one other : Log) (entries : List Entry) → IsOrder base one other entries → IsProgram base
      → IsProgram (after base (history_of entries))
  -- the same is known then
  pub known : (base : Program) (one other : Log) (entries : List Entry) → IsOrder base one other entries
      → (id : Id) → get (after base (history_of entries)).known id ≡ get (left_by_both base one other).known id
  -- and where no entity of the base is dead and no entries are in conflict, what is left is the same program
  pub same : (base : Program) (one other : Log) (entries : List Entry) → IsOrder base one other entries → IsProgram base → HasNoDead base
      → HaveNoPairs base one other → Same (after base (history_of entries)) (left_by_both base one other)
  -- the log of the lesser first tag and then the other is such an order
  pub in_turn : (base : Program) (one other : Log) → BothApply base one other
      → IsOrder base one other ((lesser one other).entries ++ (greater one other).entries)
