use Rattle.std.proofs.lemmas.Result.{err_from_is_err_and}
use Rattle.mol_merge.proofs.LimitsPassed.{by-first, by-second, neither}
use Rattle.mol_merge.proofs.merging.merged_of.Goals as goal
use Rattle.mol_merge.specs.Outcomes.{log_limit}
use Rattle.mol_spell_files.specs.FileLimits.{files_limit}
use Rattle.mol_spell_files.specs.ProgramTexts.{program_heights, program_texts}

pub returns-in_err-files-clause-refused : goal.returns-in_err-files-clause-refused
returns-in_err-files-clause-refused c =
    let program = c.args.together in
    let p = err_from_is_err_and c.from_residual.result c.from_residual.ensures.1 in
    rw (p.1, p.2) (by-first (files_limit (program_texts program) (program_heights program))
    (log_limit c.args.one.now c.args.other.now) _ c.in_err-files.ensures.refused)

pub returns-in_err-log-clause-refused : goal.returns-in_err-log-clause-refused
returns-in_err-log-clause-refused c =
    let program = c.args.together in
    let p = err_from_is_err_and c.from_residual-in_err-log.result c.from_residual-in_err-log.ensures.1 in
    rw (p.1, p.2) (by-second (files_limit (program_texts program) (program_heights program))
    (log_limit c.args.one.now c.args.other.now) _ c.in_ok-files.ensures.allowed c.in_err-log.ensures.refused)

pub returns-clause-merged : goal.returns-clause-merged
returns-clause-merged c =
    let program = c.args.together in
    record {
      files = c.in_ok-files.ensures.texts;
      log = c.in_ok-log.ensures.merged;
      plan = c.new.ensures;
      dropped = c.new-2.ensures;
      within = neither (files_limit (program_texts program) (program_heights program)) (log_limit c.args.one.now c.args.other.now)
          c.in_ok-files.ensures.allowed c.in_ok-log.ensures.allowed;
    }
