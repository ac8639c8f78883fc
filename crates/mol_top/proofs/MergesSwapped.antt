-- A merge with its logs in the other order.
use Rattle.std.proofs.Common.{◌≡◌, ◌∙◌, sym, ap, subst, ℕ, List, []}
use Rattle.mol_faults_rules.specs.declared.conflict.Conflict.{Conflict}
use Rattle.mol_log.specs.declared.log.Log.{Log}
use Rattle.mol_merge.specs.Outcomes.{AreConflictsBy, AreMergeable, united_by, written_limit}
use Rattle.mol_merge_laws.proofs.Laws.{logs_apart}
use Rattle.mol_merge_rules.specs.TwoLogs.{IsMergedLog, ShareNoTag, greater, lesser}
use Rattle.mol_outside.specs.Contents.{Contents}
use Rattle.mol_table_rules.specs.Program.{Program}
use Rattle.mol_top.specs.Command.{MergeWords, swapped}
use Rattle.mol_top.specs.Merging.{AreConflictsOfBoth, IsLogOfBoth, Merge, MergeComesTo, MergesTo, left_by_both, merged_outcome}
use Rattle.mol_top.specs.Output.{Outcome}

module _ (base : Program) (first second : Log) (apart : ShareNoTag first second) where
  less : lesser second first ≡ lesser first second
  less = logs_apart.lesser_turned first second apart

  more : greater second first ≡ greater first second
  more = logs_apart.greater_turned first second apart

  same-left : left_by_both base second first ≡ left_by_both base first second
  same-left = λ i. united_by base (less i) (more i)

  conflicts-turned : (list : List Conflict) → AreConflictsOfBoth base first second list → AreConflictsOfBoth base second first list
  conflicts-turned list are = subst (λ (one : Log). AreConflictsBy base one (greater second first) list) (sym less)
      (subst (λ (other : Log). AreConflictsBy base (lesser first second) other list) (sym more) are)

  log-turned : (log : Log) → IsLogOfBoth first second log → IsLogOfBoth second first log
  log-turned log is = subst (λ (one : Log). IsMergedLog one (greater second first) log) (sym less)
      (subst (λ (other : Log). IsMergedLog (lesser first second) other log) (sym more) is)

  merge-turned : (log : Log) → Merge base first second log → Merge base second first log
  merge-turned log merge = record {
    none = conflicts-turned [] merge.none;
    log = log-turned log merge.log;
    within = (λ i. written_limit (same-left i) (less i) (more i)) ∙ merge.within;
  }

  merges-turned : (out : List ℕ) (outcome : Outcome) → MergesTo out base first second outcome → MergesTo out base second first outcome
  merges-turned out outcome (MergesTo.merged log merge is) =
      MergesTo.merged log (merge-turned log merge) (is ∙ ap (λ (program : Program). merged_outcome out program log) (sym same-left))
  merges-turned out outcome (MergesTo.conflicts list some are is) = MergesTo.conflicts list some (conflicts-turned list are) is

mergeable-turned : (base : Program) (first second : Log) → AreMergeable base first second → AreMergeable base second first
mergeable-turned base first second is =
    record { apart = λ tag there here. is.apart tag here there; first_replays = is.second_replays; second_replays = is.first_replays }

pub same_swapped : (words : MergeWords) (held : Contents) (outcome : Outcome) → MergeComesTo words held outcome
    → MergeComesTo (swapped words) held outcome
same_swapped words held outcome comes =
    let over = comes.comes in
    record {
      base = comes.base;
      clean = comes.clean;
      comes = record {
        first = over.second;
        second = over.first;
        has = record { there = over.has.rest.there; rest = record { there = over.has.there; free = over.has.rest.free } };
        mergeable = mergeable-turned comes.base over.first over.second over.mergeable;
        comes = merges-turned comes.base over.first over.second over.mergeable.apart words.out outcome over.comes;
      };
    }
