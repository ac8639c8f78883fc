-- Limits of a result, one after another.
use Rattle.std.proofs.Common.{◌≡◌, ◌∙◌, refl, ap, Option, None, Some}
use Rattle.std.specs.List.{concat}
use Rattle.std.specs.Option.{option_or}
use Rattle.std.specs.Prelude.{◌++◌, map}
use Rattle.mol_merge.specs.Outcomes.{IsPassing, as_limit, long_log, merged_text}
use Rattle.mol_merge.specs.declared.outcome.MergeFault.{MergeFault}
use Rattle.mol_merge.specs.declared.outcome.MergeFault.TheVariants as faults
use Rattle.mol_log.specs.Form.{header_with}
use Rattle.mol_log.specs.Written.{entry_text, line_text, written}
use Rattle.mol_log.specs.declared.log.Log.{Log}
use Rattle.mol_log_rows.specs.lines.Headers.{header_data}
use Rattle.mol_merge_rules.specs.TwoLogs.{IsMergedLog}
use Rattle.mol_spell_files.specs.declared.limits.LimitFault.{LimitFault}

-- want of memory passes no limit
pub no-memory : (passes : Option LimitFault) → IsPassing passes faults.OutOfMemory
no-memory passes other = absurd (other refl)

-- a limit that is told is passed
pub told : (passes : Option LimitFault) (limit : LimitFault) → passes ≡ Some limit → IsPassing passes (as_limit limit)
told passes limit is other = record { limit = limit; is = refl; passed = is }

-- of two that are tried in turn
module _ (first second : Option LimitFault) where
  pub neither : first ≡ None → second ≡ None → option_or first second ≡ None
  neither none also = ap (λ o. option_or o second) none ∙ also

  pub by-first : (fault : MergeFault) → IsPassing first fault → IsPassing (option_or first second) fault
  by-first fault passes other =
      let tells = passes other in
      record { limit = tells.limit; is = tells.is; passed = ap (λ o. option_or o second) tells.passed }

  pub by-second : (fault : MergeFault) → first ≡ None → IsPassing second fault → IsPassing (option_or first second) fault
  by-second fault none passes other =
      let tells = passes other in
      record { limit = tells.limit; is = tells.is; passed = ap (λ o. option_or o second) none ∙ tells.passed }

-- the written form of the log of two
pub text-merged : (one other merged : Log) → IsMergedLog one other merged → written merged ≡ merged_text one other
text-merged one other merged is =
    λ i. line_text (header_data (header_with (is.digest i) (is.tags i))) ++ concat (map entry_text (is.entries i))

pub long-log : (one other merged : Log) → IsMergedLog one other merged → long_log (written merged) ≡ long_log (merged_text one other)
long-log one other merged is = ap long_log (text-merged one other merged is)
