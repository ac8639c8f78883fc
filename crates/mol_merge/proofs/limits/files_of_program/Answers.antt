use Rattle.std.proofs.lemmas.Result.{err_from_is_err_and}
use Rattle.mol_merge.proofs.LimitsPassed.{no-memory}
use Rattle.mol_merge.proofs.limits.files_of_program.Goals as goal
use Rattle.mol_spell_files.specs.FileLimits.{files_limit}
use Rattle.mol_spell_files.specs.ProgramTexts.{program_heights, program_texts}

pub returns-in_err-files-clause-refused : goal.returns-in_err-files-clause-refused
returns-in_err-files-clause-refused c =
    let program = c.args.program.now in
    let p = err_from_is_err_and c.from_residual.result c.from_residual.ensures.1 in
    rw (p.1, p.2) (no-memory (files_limit (program_texts program) (program_heights program)))
