-- What a merge of two logs answers.
use Rattle.std.proofs.Common.{◌≡◌, ◌≢◌, ◌∙◌, refl, sym, ap, subst, [], Result}
use Rattle.std.specs.Prelude.{Ok, Err, IfErr, OnOk}
use Rattle.mol_log.specs.declared.log.Log.{Log}
use Rattle.mol_merge.specs.Finding.{TellsLarge, TellsReplay}
use Rattle.mol_merge.specs.Outcomes.{AreMergeable, AreConflictsBy, IsMerged, IsPassing, IsWritten, MergeRefuses, as_limit, united_by, written_limit}
use Rattle.mol_merge.specs.Outcomes.{first_refused, second_refused, limit}
use Rattle.mol_merge.specs.declared.outcome.MergeFault.{MergeFault}
use Rattle.mol_merge.specs.declared.outcome.MergeFault.TheVariants as faults
use Rattle.mol_merge.specs.declared.outcome.Merged.{Merged as MergedFiles}
use Rattle.mol_merge_rules.specs.TwoLogs.{ShareNoTag, lesser, greater}
use Rattle.mol_replay.specs.Replays.{Replays}
use Rattle.mol_table_rules.specs.Program.{Program}

-- unless it is want of memory, the fault is that of a limit which the result passes
abbrev pub IsTooLarge : Program → Log → Log → MergeFault → Type 0
IsTooLarge base one other fault = fault ≢ faults.OutOfMemory → TellsLarge base one other fault

-- what holds anyway holds on an answer
pub on-ok : {A E P : Type 0} (answer : Result A E) → P → OnOk answer P
on-ok (Ok x) holds = holds
on-ok (Err fault) holds = tt {0}

module _ (base : Program) (one other : Log) where
  -- the files and the log of what both leave
  pub merged-is : (together : Program) (merged : MergedFiles) → AreConflictsBy base one other [] → together ≡ united_by base one other
      → IsWritten together one other merged → IsMerged base one other merged
  merged-is together merged none is written =
      record { none = none; written = subst (λ (p : Program). IsWritten p one other merged) is written }

  -- a limit that they pass
  pub large-is : (together : Program) (fault : MergeFault) → AreConflictsBy base one other [] → together ≡ united_by base one other
      → IsPassing (written_limit together one other) fault → fault ≢ faults.OutOfMemory → TellsLarge base one other fault
  large-is together fault none is passes no-want =
      let tells = passes no-want in
      record {
        limit = tells.limit;
        is = tells.is;
        large = record { none = none; passes = ap (λ (p : Program). written_limit p one other) (sym is) ∙ tells.passed };
      }

module _ (base : Program) (first second : Log) where
  pub refuses-first : ShareNoTag first second → (fault : MergeFault) → TellsReplay faults.First base first fault
      → MergeRefuses base first second fault
  refuses-first apart fault tells = subst (MergeRefuses base first second) (sym tells.is) (first_refused apart tells.refuses)

  pub refuses-second : ShareNoTag first second → Replays base first → (fault : MergeFault) → TellsReplay faults.Second base second fault
      → MergeRefuses base first second fault
  refuses-second apart replays fault tells =
      subst (MergeRefuses base first second) (sym tells.is) (second_refused apart replays tells.refuses)

  pub refuses-large : AreMergeable base first second → (fault : MergeFault)
      → TellsLarge base (lesser first second) (greater first second) fault → MergeRefuses base first second fault
  refuses-large mergeable fault tells =
      subst (MergeRefuses base first second) (sym tells.is) (limit mergeable tells.large)

  abbrev pub Refuses : MergeFault → Type 0
  Refuses fault = fault ≢ faults.OutOfMemory → MergeRefuses base first second fault

  pub no-memory : Refuses faults.OutOfMemory
  no-memory other = absurd (other refl)

  pub answer-large : {A : Type 0} (answer : Result A MergeFault) → AreMergeable base first second
      → IfErr answer (IsTooLarge base (lesser first second) (greater first second)) → IfErr answer Refuses
  answer-large (Ok x) mergeable large = tt {0}
  answer-large (Err fault) mergeable large = λ other. refuses-large mergeable fault (large other)
