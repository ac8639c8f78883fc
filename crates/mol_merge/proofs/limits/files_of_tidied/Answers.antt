use Rattle.std.proofs.Common.{◌≡◌, None, subst}
use Rattle.std.specs.Prelude.{IfErr, IfOk, OnOk}
use Rattle.std.proofs.lemmas.Result.{err_from_is_err_and}
use Rattle.mol_merge.proofs.LimitsPassed.{no-memory}
use Rattle.mol_merge.proofs.limits.files_of_tidied.Goals as goal
use Rattle.mol_spell_files.specs.FileLimits.{files_limit}
use Rattle.mol_spell_files.specs.ProgramTexts.{program_heights, program_texts}
use Rattle.mol_base.specs.Files.{file_pairs}
use Rattle.mol_merge.specs.Outcomes.{IsPassing}
use Rattle.mol_table_rules.specs.Program.{Program}

pub returns-in_err-program-clause-refused : goal.returns-in_err-program-clause-refused
returns-in_err-program-clause-refused c =
    let program = c.args.tidied.now in
    let p = err_from_is_err_and c.from_residual.result c.from_residual.ensures.1 in
    rw (p.1, p.2) (no-memory (files_limit (program_texts program) (program_heights program)))

pub returns-clause-texts : goal.returns-clause-texts
returns-clause-texts c =
    subst (λ (p : Program). IfOk c.files_of_program.result (λ files. file_pairs files ≡ program_texts p)) c.in_ok-program.ensures
    c.files_of_program.ensures.texts

pub returns-clause-allowed : goal.returns-clause-allowed
returns-clause-allowed c =
    subst (λ (p : Program). OnOk c.files_of_program.result (files_limit (program_texts p) (program_heights p) ≡ None))
    c.in_ok-program.ensures c.files_of_program.ensures.allowed

pub returns-clause-refused : goal.returns-clause-refused
returns-clause-refused c =
    subst (λ (p : Program). IfErr c.files_of_program.result (IsPassing (files_limit (program_texts p) (program_heights p))))
    c.in_ok-program.ensures c.files_of_program.ensures.refused
