-- The merged log of two.
use Rattle.std.specs.Prelude.{◌≡◌, []}
use Rattle.mol_log.specs.declared.log.Log.{Log}
use Rattle.mol_log_rules.specs.Histories.{after}
use Rattle.mol_log_rules.specs.Logs.{history}
use Rattle.mol_merge.specs.Outcomes.{AreConflictsBy, AreMergeable, united_by}
use Rattle.mol_merge_rules.specs.TwoLogs.{IsMergedLog, greater, lesser}
use Rattle.mol_replay.specs.Replays.{Replays}
use Rattle.mol_table_rules.specs.Program.{Program}

pub record MergedReplays : Type 0 where
  -- where nothing in two logs conflicts that replay on a base, their merged log replays on it too, and leaves what both leave together
  pub replays : (base : Program) (first second merged : Log) → AreMergeable base first second
      → AreConflictsBy base (lesser first second) (greater first second) []
      → IsMergedLog (lesser first second) (greater first second) merged
      → Replays base merged × (after base (history merged) ≡ united_by base (lesser first second) (greater first second))
