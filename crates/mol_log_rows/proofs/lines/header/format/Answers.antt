use Rattle.std.proofs.Common.{◌≡◌, ◌==◌, ℕ, Bool, Option, true, false, is_some, codes, ap, ◌∙◌, sym, option_map, option_and_then}
use Rattle.serde_json.specs.Find.{as_number, as_u64}
use Rattle.serde_json.specs.View.{view}
use Rattle.mol_log_rows.specs.lines.HeaderReader.{format_from}
use Rattle.mol_log_rows.specs.lines.Reader.{before, kept}
use Rattle.mol_log_rows.proofs.lines_lemmas.FormatNumbers.{format_is, format_not}
use Rattle.mol_log_rows.proofs.lines_lemmas.Refused.{reads_known_err}
use Rattle.mol_log_rows.proofs.lines_lemmas.Taken.{part_with, part_without}
use Rattle.mol_log_rows.proofs.lines.header.format.Goals as goal

-- whether a number is that of the format
abbrev tested : Option ℕ → Bool
tested found = is_some (kept (λ number. number == 1) found)

pub returns-in_err-value : goal.returns-in_err-value
returns-in_err-value c =
    reads_known_err 1 _ c.from_residual.result _ _ c.from_residual.ensures.1 (λ wrong. part_without (codes "format") format_from _ c.in_err-value.ensures)

pub returns-then-is_format : goal.returns-then-is_format
returns-then-is_format c =
    let number = option_and_then as_u64 (as_number (view c.in_ok-value.value)) in
    let is : tested number ≡ true = ap tested (sym c.as_u64.ensures) ∙ sym c.is_format.ensures ∙ c.if-is_format.true in
    part_with (codes "format") format_from _ _ _ c.in_ok-value.ensures ∙ ap (option_map (before _)) (format_is number is)

pub returns : goal.returns
returns c = λ wrong.
    let number = option_and_then as_u64 (as_number (view c.in_ok-value.value)) in
    let isnt : tested number ≡ false = ap tested (sym c.as_u64.ensures) ∙ sym c.is_format.ensures ∙ c.if-is_format.false in
    part_with (codes "format") format_from _ _ _ c.in_ok-value.ensures ∙ ap (option_map (before _)) (format_not number isnt)
