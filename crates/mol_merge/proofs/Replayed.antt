-- The merged log of two logs replays.
use Rattle.std.proofs.Common.{◌≡◌, ◌∙◌, sym, ap, subst, Bool, true, false, [], ◌++◌, Result}
use Rattle.std.specs.Prelude.{Ok, Err, IfOk, OnOk, if◌then◌else◌}
use Rattle.mol_log.specs.declared.log.Log.{Log}
use Rattle.mol_log_rules.specs.Histories.{History, AppliesOn, after}
use Rattle.mol_log_rules.specs.Logs.{history}
use Rattle.mol_merge.proofs.Conflicting.{clean-united}
use Rattle.mol_merge.specs.MergedLogs.{MergedReplays}
use Rattle.mol_merge.specs.Outcomes.{AreConflictsBy, AreMergeable, IsOutcome, IsReplayed, united_by}
use Rattle.mol_merge.specs.declared.outcome.Outcome.{Outcome}
use Rattle.mol_merge.specs.declared.outcome.Outcome.TheVariants.{Merged, Conflicts}
use Rattle.mol_merge_laws.proofs.Laws.{logs_merge}
use Rattle.mol_merge_rules.specs.TwoLogs.{IsMergedLog, ShareNoTag, comes_first}
use Rattle.mol_replay.specs.Replays.{Replays}
use Rattle.mol_spell_rules.specs.Clean.{Clean}
use Rattle.mol_table_rules.specs.Program.{Program}
use Rattle.mol_unite.proofs.InTurn.{both-in-turn}

-- the log of the one behind which the other's entries stand
in-turn : (base : Program) (one other merged : Log) → Replays base one → Replays base other → ShareNoTag one other
    → AreConflictsBy base one other [] → IsMergedLog one other merged
    → Replays base merged × (after base (history merged) ≡ united_by base one other)
in-turn base one other merged first second apart none is = (
  record {
    digest = is.digest ∙ first.digest;
    applies = subst (AppliesOn base) (sym same) (both-in-turn base one other first.applies second.applies apart);
    clean = subst (λ (h : History). Clean (after base h)) (sym same) (clean-united base (history one) (history other) none);
  },
  ap (after base) same,
) where
  same : history merged ≡ history one ++ history other
  same = logs_merge.history one other merged is

in-either-order : (base : Program) (first second merged : Log) (is_first : Bool) → AreMergeable base first second
    → AreConflictsBy base (if is_first then first else second) (if is_first then second else first) []
    → IsMergedLog (if is_first then first else second) (if is_first then second else first) merged
    → Replays base merged
    × (after base (history merged) ≡ united_by base (if is_first then first else second) (if is_first then second else first))
in-either-order base first second merged true are none is =
    in-turn base first second merged are.first_replays are.second_replays are.apart none is
in-either-order base first second merged false are none is =
    in-turn base second first merged are.second_replays are.first_replays (λ tag there here. are.apart tag here there) none is

pub merged_replays : MergedReplays
merged_replays = record {
  replays = λ base first second merged are none is.
      in-either-order base first second merged (comes_first first second) are none is;
}

module _ (base : Program) (first second : Log) where
  outcome-replays : (outcome : Outcome) → IsOutcome base first second outcome → AreMergeable base first second
      → IsReplayed base first second outcome
  outcome-replays (Merged merged) is are = merged_replays.replays base first second merged.log are is.none is.written.log
  outcome-replays (Conflicts list) is are = tt {0}

  pub answer-replays : {E : Type 0} (answer : Result Outcome E) → IfOk answer (IsOutcome base first second)
      → OnOk answer (AreMergeable base first second) → IfOk answer (IsReplayed base first second)
  answer-replays (Ok outcome) is are = outcome-replays outcome is are
  answer-replays (Err fault) is are = tt {0}
