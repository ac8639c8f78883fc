use Rattle.std.proofs.Common.{sym, ◌∙◌, arith, rules}
use Rattle.std.proofs.lemmas.Grind.{common_steps}
use Rattle.mol_log_words.specs.Reader.{passing}
use Rattle.mol_log_words.specs.Words.{has_form}
use Rattle.mol_log_words.specs.declared.text_form.TextForm.TheVariants.{Comment}
use Rattle.mol_log_body.specs.StatementHeads.{is_note, marked}
use Rattle.mol_log_body.proofs.BodyTurns.{opening_note, opening_head, shorter}
use Rattle.mol_log_body.proofs.lists.open_stmt.Goals as goal

pub returns-in_err-take_note : goal.returns-in_err-take_note
returns-in_err-take_note c =
    let st = opening_note c.args.first c.args.depth c.loop-alloc.notes c.loop-alloc.words
    (sym c.is_at_note.ensures ∙ c.loop-alloc-test.true) in
    first_of (search rules, grind (arith, common_steps))

pub returns-in_err-note : goal.returns-in_err-note
returns-in_err-note c =
    let st = opening_note c.args.first c.args.depth c.loop-alloc.notes c.loop-alloc.words
    (sym c.is_at_note.ensures ∙ c.loop-alloc-test.true) in
    first_of (search rules, grind (arith, common_steps))

pub loop-alloc-preserved : goal.loop-alloc-preserved
loop-alloc-preserved c =
    let st = opening_note c.args.first c.args.depth c.loop-alloc.notes c.loop-alloc.words
    (sym c.is_at_note.ensures ∙ c.loop-alloc-test.true) in
    first_of (search rules, grind (arith, common_steps))

pub loop-alloc-smaller : goal.loop-alloc-smaller
loop-alloc-smaller c =
    let mark = shorter (marked is_note) _ _ _ c.in_ok-take_note.ensures in
    let note = shorter (passing (has_form Comment)) _ _ _ c.in_ok-note.ensures in
    omega (arith, mark, note)

pub returns-in_err-head : goal.returns-in_err-head
returns-in_err-head c =
    let st = opening_head c.args.first c.args.depth c.loop-alloc.notes c.loop-alloc.words
    (sym c.is_at_note.ensures ∙ c.loop-alloc-test.false) in
    first_of (search rules, grind (arith, common_steps))

pub returns : goal.returns
returns c =
    let st = opening_head c.args.first c.args.depth c.loop-alloc.notes c.loop-alloc.words
    (sym c.is_at_note.ensures ∙ c.loop-alloc-test.false) in
    first_of (search rules, grind (arith, common_steps))
