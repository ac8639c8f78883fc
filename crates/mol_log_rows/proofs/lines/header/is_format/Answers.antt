use Rattle.std.proofs.Common.{◌==◌, is_some, ap, ◌∙◌, sym}
use Rattle.mol_log_rows.specs.lines.Reader.{kept}
use Rattle.mol_log_rows.proofs.lines_lemmas.FormatNumbers.{some_tested}
use Rattle.mol_log_rows.proofs.lines.header.is_format.Goals as goal

pub returns-in-Some : goal.returns-in-Some
returns-in-Some c = some_tested c.in-Some.number ∙ ap (λ found. is_some (kept (λ number. number == 1) found)) (sym c.in-Some.is)
