use Rattle.std.proofs.Common.{ap}
use Rattle.std.specs.Prelude.{option_map}
use Rattle.std.proofs.lemmas.Result.{err_from_is_err_and}
use Rattle.mol_base.specs.Files.{file_pairs}
use Rattle.mol_top.proofs.formatting.files_work.Goals as goal
use Rattle.mol_top.proofs.FilesBelow.{inside_below}
use Rattle.mol_top.specs.Answers.{limit_status}

pub returns-in_err-refuse_large-clause-stop : goal.returns-in_err-refuse_large-clause-stop
returns-in_err-refuse_large-clause-stop c =
    let p = err_from_is_err_and c.from_residual-in_err-refuse_large.result c.from_residual-in_err-refuse_large.ensures.1 in
    rw (p.1, p.2) (ap (option_map limit_status)
    (rw (c.as_slice.ensures.value, c.as_slice-2.ensures.value, c.in_ok-texts.ensures.texts, c.in_ok-texts.ensures.heights)
    at c.in_err-refuse_large.ensures.refused))

pub returns-clause-work : goal.returns-clause-work
returns-clause-work c = record {
  allowed = ap (option_map limit_status)
      (rw (c.as_slice.ensures.value, c.as_slice-2.ensures.value, c.in_ok-texts.ensures.texts, c.in_ok-texts.ensures.heights)
      at c.in_ok-refuse_large.ensures.allowed);
  is = rw c.in_ok-texts.ensures.texts at c.in_ok-text_work.ensures;
}

pub returns-clause-inside : goal.returns-clause-inside
returns-clause-inside c =
    inside_below c.in_ok-text_work.field-0 c.args.out.now (file_pairs c.in_ok-texts.field-0.texts.items) c.in_ok-text_work.ensures.files
