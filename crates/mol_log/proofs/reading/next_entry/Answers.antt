use Rattle.std.proofs.Common.{◌∙◌}
use Rattle.mol_log_rows.proofs.rows_lemmas.LineFaults.{answers_err}
use Rattle.mol_log.proofs.NextEntries.{no_row_there, nothing_there, row_there, entry_there, bad_there}
use Rattle.mol_log.specs.LogLines.{HaveFault}
use Rattle.mol_log.specs.NextEntry.{IsNextEntry}
use Rattle.mol_log.proofs.reading.next_entry.Goals as goal

pub returns-in_err-next : goal.returns-in_err-next
returns-in_err-next c = λ tags earlier number lines stands.
    answers_err (IsNextEntry tags earlier number lines c.next_row.new.self) (HaveFault tags earlier number lines) c.from_residual.result _
    c.from_residual.ensures.1
    (no_row_there tags earlier number lines _ c.next_row.new.self (c.in_err-next.ensures tags earlier number lines stands))

pub returns-in-None : goal.returns-in-None
returns-in-None c = λ tags earlier number lines stands.
    nothing_there tags earlier number lines c.in_ok-next.next c.next_row.new.self c.in-None.is
    (c.in_ok-next.ensures tags earlier number lines stands)

pub entry_of-requires-clause-stamped : goal.entry_of-requires-clause-stamped
entry_of-requires-clause-stamped c =
    let s = c.requires in
    (row_there s.tags s.earlier s.number s.lines c.in-Some.found c.next_row.new.self c.in_ok-next.next c.in-Some.is
    (c.in_ok-next.ensures s.tags s.earlier s.number s.lines s.on)).says.says.is.stamped

pub entry_of-requires-clause-formed : goal.entry_of-requires-clause-formed
entry_of-requires-clause-formed c =
    let s = c.requires in
    (row_there s.tags s.earlier s.number s.lines c.in-Some.found c.next_row.new.self c.in_ok-next.next c.in-Some.is
    (c.in_ok-next.ensures s.tags s.earlier s.number s.lines s.on)).says.says.is.formed

pub returns-in_err-entry-in-Some : goal.returns-in_err-entry-in-Some
returns-in_err-entry-in-Some c = λ tags earlier number lines stands.
    let takes = row_there tags earlier number lines c.in-Some.found c.next_row.new.self c.in_ok-next.next c.in-Some.is
    (c.in_ok-next.ensures tags earlier number lines stands) in
    answers_err (IsNextEntry tags earlier number lines c.next_row.new.self) (HaveFault tags earlier number lines)
    c.from_residual-in_err-entry-in-Some.result _ c.from_residual-in_err-entry-in-Some.ensures.1
    (λ enough.
    bad_there tags earlier number lines c.in-Some.found c.next_row.new.self takes _ c.number-number.result
    (c.number-number.ensures ∙ stands.counted) (c.in_err-entry-in-Some.ensures.bad enough))

pub returns-in_ok-entry-in-Some : goal.returns-in_ok-entry-in-Some
returns-in_ok-entry-in-Some c = λ tags earlier number lines stands.
    entry_there tags earlier number lines c.in-Some.found c.next_row.new.self
    (row_there tags earlier number lines c.in-Some.found c.next_row.new.self c.in_ok-next.next c.in-Some.is
    (c.in_ok-next.ensures tags earlier number lines stands))
    c.in_ok-entry-in-Some.entry c.in_ok-entry-in-Some.ensures.entry
