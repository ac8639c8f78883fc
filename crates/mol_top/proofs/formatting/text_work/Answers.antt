use Rattle.std.proofs.Common.{◌∙◌, ap, refl, map, arith}
use Rattle.std.proofs.lemmas.List.{length-map}
use Rattle.mol_base.specs.Files.{file_pair, file_pairs}
use Rattle.mol_top.specs.Output.{failure_of}
use Rattle.mol_top.proofs.FilesBelow.{named_below}
use Rattle.mol_top.proofs.formatting.text_work.Goals as goal

pub returns : goal.returns
returns c = record {
  conflicts = refl;
  files = c.in_ok-files.ensures;
  report = c.in_ok-report.ensures ∙ rw (c.len.ensures, c.args.texts.ok.0, ← length-map c.args.texts.items file_pair) refl;
  failures = c.in_ok-failures.ensures ∙ ap (map failure_of) c.as_slice.ensures.value;
  named = named_below c.in_ok-files.files.items c.args.out.now (file_pairs c.args.texts.items) c.in_ok-files.ensures;
  apart = λ some. absurd (omega (arith, some));
}
