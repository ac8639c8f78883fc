-- Two logs that share no tag have one log of both, where its entries are within the limit.
use mathlib.Core.HLevel.{is_prop→PathP}
use Rattle.std.proofs.Common.{◌≡◌, ◌∙◌, refl, sym, subst, ℕ, ◌+◌, ◌≤◌, Bool, true, false, [], ◌∷◌, ◌++◌, length, Option, None, Some, cond, nat_lt}
use Rattle.std.proofs.Math.Logic.{∥∥₁_prop}
use Rattle.std.proofs.lemmas.Bool.{ltb-false}
use Rattle.std.proofs.lemmas.List.{length-append}
use Rattle.std.specs.Option.{option_or}
use Rattle.std.specs.Prelude.{option_map}
use Rattle.mol_base.specs.Limits.{most}
use Rattle.mol_base.specs.Order.{tag_cmp}
use Rattle.mol_base.specs.declared.limit.Which.{Which}
use Rattle.mol_base.specs.declared.limit.Which.TheVariants.{Operations}
use Rattle.mol_log.specs.LogForms.{IsLog}
use Rattle.mol_log.specs.declared.log.Log.{Log}
use Rattle.mol_merge.specs.Outcomes.{log_limit, long_log, many_entries, merged_text, written_limit}
use Rattle.mol_merge_laws.proofs.Laws.{logs_merge}
use Rattle.mol_merge_rules.specs.TwoLogs.{IsMergedLog, ShareNoTag}
use Rattle.mol_spell_files.specs.FileLimits.{files_limit, first_passing, passing}
use Rattle.mol_spell_files.specs.ProgramTexts.{program_heights, program_texts}
use Rattle.mol_spell_rules.specs.Sets.{as_set}
use Rattle.mol_table_rules.specs.Program.{Program}
use Rattle.mol_top_laws.proofs.Steps.{IsExactStep, sure_step}

-- # Limits

-- nothing refuses where neither does
or-none : {A : Type 0} (first second : Option A) → option_or first second ≡ None → (first ≡ None) × (second ≡ None)
or-none None second is = (refl, is)
or-none (Some a) second is = absurd cc

-- a number that passes no limit is within it
within-most : (which : Which) (number : ℕ) → first_passing which (number ∷ []) ≡ None → number ≤ most which
within-most which number none = by (nat_lt (most which) number) refl none where
  by : (passes : Bool) → nat_lt (most which) number ≡ passes → option_map (passing which) (cond passes (Some number) None) ≡ None
      → number ≤ most which
  by true is within = absurd cc
  by false is within = ltb-false (most which) number is

-- # The log of both

module _ (one other : Log) where
  few : (program : Program) → written_limit program one other ≡ None → length one.entries + length other.entries ≤ most Operations
  few program within =
      let log = (or-none (files_limit (program_texts program) (program_heights program)) (log_limit one other) within).1 in
      let many = (or-none (many_entries one other) (long_log (merged_text one other)) log).0 in
      subst (λ (number : ℕ). number ≤ most Operations) (length-append one.entries other.entries)
      (within-most Operations (length (one.entries ++ other.entries)) many)

  -- what a log keeps of its tags and entries has one proof
  one_log : (first second : Log) → IsMergedLog one other first → IsMergedLog one other second → first ≡ second
  one_log first second is also = λ i. record {
    base_digest = digest i;
    tags = tags i;
    entries = entries i;
    formed = is_prop→PathP (λ j. ∥ IsLog (tags j) (entries j) ∥₁) (λ j. ∥∥₁_prop) first.formed second.formed i;
  }
    where
      digest : first.base_digest ≡ second.base_digest
      digest = is.digest ∙ sym also.digest

      tags : first.tags ≡ second.tags
      tags = is.tags ∙ sym also.tags

      entries : first.entries ≡ second.entries
      entries = is.entries ∙ sym also.entries

  log_there : ShareNoTag one other → length one.entries + length other.entries ≤ most Operations → (log : Log) × IsMergedLog one other log
  log_there apart few = (
    record {
      base_digest = one.base_digest;
      tags = as_set tag_cmp (one.tags ++ other.tags);
      entries = one.entries ++ other.entries;
      formed = logs_merge.formed one other apart few;
    },
    record { digest = refl; tags = refl; entries = refl },
  )

  -- it is there where no limit of a result is passed
  pub log_step : {R : Type 0} → ShareNoTag one other → (program : Program) → written_limit program one other ≡ None
      → IsExactStep (λ (refusal : R). ⊥) (IsMergedLog one other)
  log_step apart program within = let log = log_there apart (few program within) in sure_step log.0 log.1 one_log
