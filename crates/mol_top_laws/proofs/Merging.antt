-- A merge comes to an outcome or is refused.
use Rattle.std.proofs.Common.{◌≡◌, inl, inr, None, Some, refl}
use Rattle.std.specs.Global.{Global}
use Rattle.mol_log.specs.declared.log.Log.{Log}
use Rattle.mol_merge.specs.Outcomes as merges
use Rattle.mol_merge.specs.declared.outcome.MergeFault.{MergeFault}
use Rattle.mol_outside.specs.Contents.{Contents}
use Rattle.mol_table_rules.specs.Program.{Program}
use Rattle.mol_top_laws.proofs.CleanBases.{base_step}
use Rattle.mol_top_laws.proofs.Logs.{log_step}
use Rattle.mol_top_laws.proofs.Merges.{Comes, merge_step}
use Rattle.mol_top_laws.proofs.Steps.{BothGive, IsExactStep, SomeRefuses, in_turn, option_step, refused_as, reworded}
use Rattle.mol_top.specs.Answers.{merge_status}
use Rattle.mol_top.specs.Bases.{BaseRefuses, IsCleanBase}
use Rattle.mol_top.specs.Command.{MergeWords}
use Rattle.mol_top.specs.Logs.{IsLogAt, LogRefuses}
use Rattle.mol_top.specs.Merging.{ComesToOver, MergeComesTo, MergeRefuses, RefusesOver, RefusesWith}
use Rattle.mol_top.specs.Output.{Outcome}
use Rattle.mol_top.specs.Refusals.{out_refusal}
use Rattle.mol_top.specs.declared.status.Status.{Status}

module _ (w : MergeWords) (held : Contents) where
  abbrev UsesOut : Status → Type 0
  UsesOut status = out_refusal w.out held ≡ Some status

  abbrev IsFree : Unit {0} → Type 0
  IsFree u = (out_refusal w.out held ≡ None) × (u ≡ tt)

  module _ (base : Program) where
    -- # Over a first log

    module _ (first : Log) where
      abbrev IsNotMerged : Log → Status → Type 0
      IsNotMerged second status = (fault : MergeFault) × merges.MergeRefuses base first second fault × (status ≡ merge_status fault)

      abbrev AfterSecond : Log → Status → Type 0
      AfterSecond second = SomeRefuses UsesOut IsFree (λ u. IsNotMerged second)

      abbrev ComesAfter : Log → Outcome → Type 0
      ComesAfter second = BothGive IsFree (λ u. Comes base first second w.out)

      abbrev AnyWith : Status → Type 0
      AnyWith = SomeRefuses (LogRefuses 2 w.second held) (IsLogAt w.second held) AfterSecond

      abbrev AllWith : Outcome → Type 0
      AllWith = BothGive (IsLogAt w.second held) ComesAfter

      with-to : (status : Status) → AnyWith status → RefusesWith w base first held status
      with-to status (inl refused) = RefusesWith.second refused
      with-to status (inr later) = by later.0 later.1 later.2 where
        by : (second : Log) → IsLogAt w.second held second → AfterSecond second status → RefusesWith w base first held status
        by second there (inl uses) = RefusesWith.out second there uses
        by second there (inr found) =
            let refused = found.2 in
            RefusesWith.merge second (record { there = there; free = found.1.0 })
            (record { fault = refused.0; refuses = refused.1; is = refused.2 })

      with-from : (status : Status) → RefusesWith w base first held status → AnyWith status
      with-from status (RefusesWith.second refused) = inl refused
      with-from status (RefusesWith.out second there uses) = inr (second, there, inl uses)
      with-from status (RefusesWith.merge second has refused) =
          inr (second, has.there, inr (tt, (has.free, refl), (refused.fault, refused.refuses, refused.is)))

      after_second : (second : Log) → IsExactStep (AfterSecond second) (ComesAfter second)
      after_second second =
          in_turn (option_step (out_refusal w.out held) (tt {0}))
          (λ u free. refused_as (merge_step base first second w.out) merge_status)

      with_step : IsExactStep (RefusesWith w base first held) AllWith
      with_step =
          reworded (in_turn (log_step 2 w.second held) (λ second there. after_second second)) with-to with-from
          (λ outcome given. given) (λ outcome given. given)

    -- # Over a base

    abbrev Any : Status → Type 0
    Any = SomeRefuses (LogRefuses 1 w.first held) (IsLogAt w.first held) (λ first. RefusesWith w base first held)

    abbrev All : Outcome → Type 0
    All = BothGive (IsLogAt w.first held) AllWith

    over-to : (status : Status) → Any status → RefusesOver w base held status
    over-to status (inl refused) = RefusesOver.first refused
    over-to status (inr later) = RefusesOver.rest later.0 later.1 later.2

    over-from : (status : Status) → RefusesOver w base held status → Any status
    over-from status (RefusesOver.first refused) = inl refused
    over-from status (RefusesOver.rest first there refused) = inr (first, there, refused)

    over-comes : (outcome : Outcome) → All outcome → ComesToOver w base held outcome
    over-comes outcome given =
        let more = given.2 in
        let free = more.2 in
        let made = free.2 in
        record {
          first = given.0;
          second = more.0;
          has = record { there = given.1; rest = record { there = more.1; free = free.1.0 } };
          mergeable = made.0;
          comes = made.1;
        }

    over-given : (outcome : Outcome) → ComesToOver w base held outcome → All outcome
    over-given outcome over =
        let rest = over.has.rest in
        (over.first, over.has.there, (over.second, rest.there, (tt, (rest.free, refl), (over.mergeable, over.comes))))

    over_step : IsExactStep (RefusesOver w base held) (ComesToOver w base held)
    over_step = reworded (in_turn (log_step 1 w.first held) (λ first there. with_step first)) over-to over-from over-comes over-given

  -- # The command

  abbrev Refused : Status → Type 0
  Refused = SomeRefuses (BaseRefuses w.base held) (IsCleanBase w.base held) (λ base. RefusesOver w base held)

  to : (status : Status) → Refused status → MergeRefuses w held status
  to status (inl refused) = MergeRefuses.base refused
  to status (inr over) = MergeRefuses.over over.0 over.1 over.2

  from : (status : Status) → MergeRefuses w held status → Refused status
  from status (MergeRefuses.base refused) = inl refused
  from status (MergeRefuses.over base clean refused) = inr (base, clean, refused)

  -- a merge is refused or comes to an outcome
  pub command_step : Global → IsExactStep (MergeRefuses w held) (MergeComesTo w held)
  command_step alloc =
      reworded (in_turn (base_step alloc w.base held) (λ base clean. over_step base)) to from
      (λ outcome given. record { base = given.0; clean = given.1; comes = given.2 })
      (λ outcome (comes : MergeComesTo w held outcome). (comes.base, comes.clean, comes.comes))
