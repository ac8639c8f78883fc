use Rattle.std.proofs.Common.{get_or, ap, ◌∙◌}
use Rattle.std.specs.List.{list_all}
use Rattle.mol_base.specs.Spelled.{is_tag}
use Rattle.mol_log_rows.proofs.lines_lemmas.Taken.{fails}
use Rattle.mol_log_rows.proofs.lines_lemmas.TagLists.{one_no_tag, no_tag}
use Rattle.mol_log_rows.proofs.lines.header.all_tags.Goals as goal

pub returns-in-Err : goal.returns-in-Err
returns-in-Err c = λ wrong.
    let texts = c.args.texts.now in
    let at = c.loop-text.text-index in
    let text = get_or texts at c.text-item.result in
    fails (list_all is_tag) texts
    (one_no_tag texts at c.text-item.result c.loop-text-test.true
    (no_tag c.bytes.result.now text c.in-Err.field-0 (ap is_tag (c.bytes.ensures.bytes ∙ c.text-item.is)) c.in-Err.ensures))
