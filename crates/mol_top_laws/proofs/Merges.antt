-- Two logs over a base merge, or come to conflicts, or are refused.
use Rattle.std.proofs.Common.{◌≡◌, ◌⊎◌, inl, inr, ℕ, Bool, true, false, List, [], ◌∷◌, Option, None, Some, refl, sym, ◌∙◌, subst, if◌then◌else◌}
use Rattle.mol_conflict_laws.proofs.EveryConflict.{conflicts_listed}
use Rattle.mol_faults_rules.specs.declared.conflict.Conflict.{Conflict}
use Rattle.mol_log.specs.declared.log.Log.{Log}
use Rattle.mol_log_rules.specs.Logs.{history}
use Rattle.mol_merge.specs.Outcomes as merges
use Rattle.mol_merge.specs.Outcomes.{AreMergeable, IsLarge, as_limit, written_limit}
use Rattle.mol_merge.specs.declared.outcome.MergeFault.{MergeFault}
use Rattle.mol_merge.specs.declared.outcome.MergeFault.TheVariants as faults
use Rattle.mol_merge_laws.proofs.Determined.{conflicts_determined}
use Rattle.mol_merge_laws.proofs.Laws.{logs_apart}
use Rattle.mol_merge_laws.proofs.Tags.{apart-turned}
use Rattle.mol_merge_rules.specs.TwoLogs.{ShareNoTag, comes_first, greater, least_shared, lesser}
use Rattle.mol_replay.specs.Replays.{ReplayRefuses, Replays}
use Rattle.mol_replay.specs.declared.fault.ReplayFault.{ReplayFault}
use Rattle.mol_spell_files.specs.declared.limits.LimitFault.{LimitFault}
use Rattle.mol_table_rules.specs.Program.{Program}
use Rattle.mol_top_laws.proofs.LogOfBoth.{log_step}
use Rattle.mol_top_laws.proofs.Replays.{replay_step}
use Rattle.mol_top_laws.proofs.Steps.{BothGive, IsExactStep, SomeRefuses, given_as, in_turn, none_some, one_some, option_step, refused_as, reworded, sure_step}
use Rattle.mol_top.specs.Merging.{AreConflictsOfBoth, IsLogOfBoth, MergesTo, conflicts_outcome, left_by_both, merged_outcome}
use Rattle.mol_top.specs.Output.{Outcome}

module _ (base : Program) (first second : Log) where
  -- # Whether they are merged

  abbrev NoneShared : Unit {0} → Type 0
  NoneShared u = ShareNoTag first second

  -- both have a tag or share none
  shared_step : IsExactStep (λ (tag : List ℕ). least_shared first second ≡ Some tag) NoneShared
  shared_step = record {
    either = by (least_shared first second) refl;
    apart = λ tag u is apart. none_some (least_shared first second) tag is ((logs_apart.none first second).1 apart);
    one_refusal = one_some (least_shared first second);
    one_gift = λ u v is also. refl;
  }
    where
      by : (o : Option (List ℕ)) → least_shared first second ≡ o
          → ((tag : List ℕ) × (least_shared first second ≡ Some tag)) ⊎ ((u : Unit {0}) × NoneShared u)
      by (Some tag) is = inl (tag, is)
      by None none = inr (tt, (logs_apart.none first second).0 none)

  abbrev IsShared : MergeFault → Type 0
  IsShared fault = (tag : List ℕ) × (least_shared first second ≡ Some tag) × (fault ≡ faults.SharedTag tag)

  abbrev Fails : (ReplayFault → MergeFault) → Log → MergeFault → Type 0
  Fails told log fault = (why : ReplayFault) × ReplayRefuses base log why × (fault ≡ told why)

  abbrev Plays : Log → Unit {0} → Type 0
  Plays log u = Replays base log

  abbrev OneFails : MergeFault → Type 0
  OneFails = SomeRefuses (Fails faults.First first) (Plays first) (λ u. Fails faults.Second second)

  abbrev BothPlay : Unit {0} → Type 0
  BothPlay = BothGive (Plays first) (λ u. Plays second)

  plays_step : IsExactStep OneFails BothPlay
  plays_step =
      in_turn (refused_as (replay_step base first) faults.First) (λ u plays. refused_as (replay_step base second) faults.Second)

  abbrev NotMerged : MergeFault → Type 0
  NotMerged = SomeRefuses IsShared NoneShared (λ u. OneFails)

  abbrev AreMerged : Unit {0} → Type 0
  AreMerged = BothGive NoneShared (λ u. BothPlay)

  merged_step : IsExactStep NotMerged AreMerged
  merged_step = in_turn (refused_as shared_step faults.SharedTag) (λ u apart. plays_step)

  -- # What they come to

  abbrev passes : Option LimitFault
  passes = written_limit (left_by_both base first second) (lesser first second) (greater first second)

  abbrev AreAll : List Conflict → Type 0
  AreAll = AreConflictsOfBoth base first second

  abbrev PassesLimit : LimitFault → Type 0
  PassesLimit limit = passes ≡ Some limit

  abbrev IsWithin : Unit {0} → Type 0
  IsWithin u = (passes ≡ None) × (u ≡ tt)

  module _ (out : List ℕ) where
    -- the outcome of a log of both
    abbrev HasLogOfBoth : Outcome → Type 0
    HasLogOfBoth outcome =
        (log : Log) × IsLogOfBoth first second log × (outcome ≡ merged_outcome out (left_by_both base first second) log)

    -- without conflicts
    abbrev TooLarge : LimitFault → Type 0
    TooLarge = SomeRefuses PassesLimit IsWithin (λ u limit. ⊥)

    abbrev Joins : Outcome → Type 0
    Joins = BothGive IsWithin (λ u. HasLogOfBoth)

    in-order : ShareNoTag first second → ShareNoTag (lesser first second) (greater first second)
    in-order apart = by (comes_first first second) where
      by : (is_first : Bool) → ShareNoTag (if is_first then first else second) (if is_first then second else first)
      by true = apart
      by false = apart-turned first second apart

    joins_step : ShareNoTag first second → IsExactStep TooLarge Joins
    joins_step apart =
        in_turn (option_step passes (tt {0})) (λ u within. given_as
        (log_step (lesser first second) (greater first second) (in-order apart) (left_by_both base first second) within.0)
        (merged_outcome out (left_by_both base first second)))

    -- of a list of conflicts that is empty or not
    abbrev Stops : List Conflict → LimitFault → Type 0
    Stops [] limit = TooLarge limit
    Stops (conflict ∷ rest) limit = ⊥

    abbrev Makes : List Conflict → Outcome → Type 0
    Makes [] outcome = Joins outcome
    Makes (conflict ∷ rest) outcome = outcome ≡ conflicts_outcome base (conflict ∷ rest)

    list_step : ShareNoTag first second → (list : List Conflict) → IsExactStep (Stops list) (Makes list)
    list_step apart [] = joins_step apart
    list_step apart (conflict ∷ rest) =
        sure_step (conflicts_outcome base (conflict ∷ rest)) refl (λ outcome more is also. is ∙ sym also)

    -- they have one list of conflicts
    all_step : IsExactStep (λ (limit : LimitFault). ⊥) AreAll
    all_step =
        let one = history (lesser first second) in
        let other = history (greater first second) in
        let all = conflicts_listed.listed base one other in
        sure_step all.0 all.1 (conflicts_determined.unique base one other)

    abbrev IsPassed : LimitFault → Type 0
    IsPassed = SomeRefuses (λ (limit : LimitFault). ⊥) AreAll Stops

    abbrev IsMade : Outcome → Type 0
    IsMade = BothGive AreAll Makes

    made_step : ShareNoTag first second → IsExactStep IsPassed IsMade
    made_step apart = in_turn all_step (λ list are. list_step apart list)

    -- # The whole

    abbrev Passes : MergeFault → Type 0
    Passes fault = (limit : LimitFault) × IsPassed limit × (fault ≡ as_limit limit)

    abbrev Any : MergeFault → Type 0
    Any = SomeRefuses NotMerged AreMerged (λ u. Passes)

    abbrev All : Outcome → Type 0
    All = BothGive AreMerged (λ u. IsMade)

    mergeable : (u : Unit {0}) → AreMerged u → AreMergeable base first second
    mergeable u are = record { apart = are.1; first_replays = are.2.1; second_replays = are.2.2 }

    merged : AreMergeable base first second → AreMerged tt
    merged are = (tt, are.apart, (tt, are.first_replays, are.second_replays))

    large : (limit : LimitFault) → IsPassed limit → IsLarge base (lesser first second) (greater first second) limit
    large limit (inl fails) = absurd fails
    large limit (inr found) = by found.0 found.1 found.2 where
      passed : TooLarge limit → passes ≡ Some limit
      passed (inl is) = is
      passed (inr later) = absurd later.2

      by : (list : List Conflict) → AreAll list → Stops list limit → IsLarge base (lesser first second) (greater first second) limit
      by [] none stops = record { none = none; passes = passed stops }
      by (conflict ∷ rest) are stops = absurd stops

    not_merged : (fault : MergeFault) → NotMerged fault → merges.MergeRefuses base first second fault
    not_merged fault (inl shares) = subst (merges.MergeRefuses base first second) (sym shares.2) (merges.shared {tag = shares.0} shares.1)
    not_merged fault (inr later) = by later.1 later.2 where
      by : ShareNoTag first second → OneFails fault → merges.MergeRefuses base first second fault
      by apart (inl fails) =
          subst (merges.MergeRefuses base first second) (sym fails.2) (merges.first_refused {fault = fails.0} apart fails.1)
      by apart (inr also) =
          let fails = also.2 in
          subst (merges.MergeRefuses base first second) (sym fails.2) (merges.second_refused {fault = fails.0} apart also.1 fails.1)

    to : (fault : MergeFault) → Any fault → merges.MergeRefuses base first second fault
    to fault (inl refused) = not_merged fault refused
    to fault (inr later) =
        let told = later.2 in
        subst (merges.MergeRefuses base first second) (sym told.2)
        (merges.limit {fault = told.0} (mergeable later.0 later.1) (large told.0 told.1))

    from : (fault : MergeFault) → merges.MergeRefuses base first second fault → Any fault
    from fault (merges.shared {tag = tag} is) = inl (inl (tag, is, refl))
    from fault (merges.first_refused {fault = why} apart refuses) = inl (inr (tt, apart, inl (why, refuses, refl)))
    from fault (merges.second_refused {fault = why} apart plays refuses) =
        inl (inr (tt, apart, inr (tt, plays, (why, refuses, refl))))
    from fault (merges.limit {fault = limit} are is) =
        inr (tt, merged are, (limit, inr ([], is.none, inl is.passes), refl))

    -- what two logs that are merged come to
    abbrev pub Comes : Outcome → Type 0
    Comes outcome = AreMergeable base first second × MergesTo out base first second outcome

    comes : (outcome : Outcome) → All outcome → Comes outcome
    comes outcome given = (mergeable given.0 given.1, by given.2.0 given.2.1 given.2.2) where
      by : (list : List Conflict) → AreAll list → Makes list outcome → MergesTo out base first second outcome
      by [] none joins =
          let log = joins.2 in
          MergesTo.merged log.0 (record { none = none; log = log.1; within = joins.1.0 }) log.2
      by (conflict ∷ rest) are is = MergesTo.conflicts (conflict ∷ rest) (λ same. absurd cc) are is

    given : (outcome : Outcome) → Comes outcome → All outcome
    given outcome come = (tt, merged come.0, by come.1) where
      by_list : (list : List Conflict) → (list ≡ [] → ⊥) → AreAll list → outcome ≡ conflicts_outcome base list → IsMade outcome
      by_list [] some are is = absurd (some refl)
      by_list (conflict ∷ rest) some are is = (conflict ∷ rest, are, is)

      by : MergesTo out base first second outcome → IsMade outcome
      by (MergesTo.merged log merge is) = ([], merge.none, (tt, (merge.within, refl), (log, merge.log, is)))
      by (MergesTo.conflicts list some are is) = by_list list some are is

    -- two logs are refused, for one fault, or come to one outcome
    pub merge_step : IsExactStep (merges.MergeRefuses base first second) Comes
    merge_step =
        reworded (in_turn merged_step (λ u are. refused_as (made_step are.1) as_limit)) to from comes given
