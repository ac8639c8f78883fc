use Rattle.std.proofs.Common.{◌≡◌, Option, None, List, subst}
use Rattle.std.specs.Prelude.{IfErr, IfOk, OnOk}
use Rattle.std.proofs.lemmas.Result.{err_from_is_err_and}
use Rattle.mol_base.specs.Files.{FilePair, file_pairs}
use Rattle.mol_merge.proofs.LimitsPassed.{no-memory}
use Rattle.mol_merge.proofs.TidiedTexts.{same-limit, same-texts}
use Rattle.mol_merge.proofs.limits.files_within.Goals as goal
use Rattle.mol_merge.specs.Outcomes.{IsPassing}
use Rattle.mol_spell_files.specs.FileLimits.{files_limit}
use Rattle.mol_spell_files.specs.ProgramTexts.{program_heights, program_texts}
use Rattle.mol_spell_files.specs.declared.limits.LimitFault.{LimitFault}

pub returns-in_err-tidied-clause-refused : goal.returns-in_err-tidied-clause-refused
returns-in_err-tidied-clause-refused c =
    let p = err_from_is_err_and c.from_residual.result c.from_residual.ensures.1 in
    rw (p.1, p.2) (no-memory (files_limit (program_texts c.args.program) (program_heights c.args.program)))

pub returns-clause-texts : goal.returns-clause-texts
returns-clause-texts c =
    subst (λ (texts : List FilePair). IfOk c.files_of_tidied.result (λ files. file_pairs files ≡ texts))
    (same-texts c.args.program c.in_ok-tidied.tidied c.in_ok-tidied.ensures.is c.in_ok-tidied.ensures.tidied)
    c.files_of_tidied.ensures.texts

pub returns-clause-allowed : goal.returns-clause-allowed
returns-clause-allowed c =
    subst (λ (passes : Option LimitFault). OnOk c.files_of_tidied.result (passes ≡ None))
    (same-limit c.args.program c.in_ok-tidied.tidied c.in_ok-tidied.ensures.is c.in_ok-tidied.ensures.tidied)
    c.files_of_tidied.ensures.allowed

pub returns-clause-refused : goal.returns-clause-refused
returns-clause-refused c =
    subst (λ (passes : Option LimitFault). IfErr c.files_of_tidied.result (IsPassing passes))
    (same-limit c.args.program c.in_ok-tidied.tidied c.in_ok-tidied.ensures.is c.in_ok-tidied.ensures.tidied)
    c.files_of_tidied.ensures.refused
