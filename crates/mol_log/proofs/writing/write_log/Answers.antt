use Rattle.std.proofs.Common.{◌≤◌, ◌++◌, length, ap, ◌∙◌, sym, subst}
use Rattle.mol_base.specs.Limits.{most}
use Rattle.mol_base.specs.declared.limit.Which.TheVariants.{LogBytes}
use Rattle.mol_log_rows.specs.lines.Headers.{header_data}
use Rattle.mol_log.proofs.EntriesWritten.{add-entry, add-read, all-written, all-read, digest_of}
use Rattle.mol_log.proofs.WrittenLogs.{AreReadBack, text_of, written-spells}
use Rattle.mol_log.specs.Form.{IsLogText, header_of}
use Rattle.mol_log.specs.Written.{line_text, entry_text}
use Rattle.mol_log.proofs.writing.write_log.Goals as goal

pub loop-entry-preserved : goal.loop-entry-preserved
loop-entry-preserved c =
    let entries = c.items-entry-items.result.now in
    let entry = c.entry-item.result in
    let at = c.loop-entry.entry-index in (
      c.in_ok-add_entry.ensures.text ∙ ap (λ t. t ++ entry_text entry) c.loop-entry.invariant.0
          ∙ add-entry entries at entry c.loop-entry-test.true (sym c.entry-item.is) (line_text (header_data (header_of c.args.log.now))),
      add-read entries at entry c.loop-entry-test.true (sym c.entry-item.is) c.loop-entry.invariant.1 c.in_ok-add_entry.ensures.read,
    )

pub returns-clause-text : goal.returns-clause-text
returns-clause-text c =
    let head = line_text (header_data (header_of c.args.log.now)) in
    c.from_vec.ensures
    ∙ all-written c.items-entry-items.result.now c.loop-entry.entry-index c.loop-entry-test.false head c.loop-entry.text.items
    c.loop-entry.invariant.0
    ∙ ap (λ es. head ++ text_of es) c.items-entry-items.ensures

pub returns-clause-form : goal.returns-clause-form
returns-clause-form c = λ size.
    let log = c.args.log.now in
    let is = returns-clause-text c in
    let each : AreReadBack log.entries =
    subst AreReadBack c.items-entry-items.ensures
    (all-read c.items-entry-items.result.now c.loop-entry.entry-index c.loop-entry-test.false c.loop-entry.invariant.1) in
    let digest = digest_of log.base_digest c.bytes_fit.ensures.0 c.bytes_fit.ensures.1 in
    subst (λ b. ∥ IsLogText b log ∥₁) (sym is)
    (written-spells log digest c.in_ok-add_header.ensures.read each (subst (λ b. length b ≤ most LogBytes) is size))
