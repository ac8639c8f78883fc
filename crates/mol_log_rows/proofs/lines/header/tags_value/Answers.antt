use Rattle.std.proofs.Common.{ap, ◌∙◌, sym, rules}
use Rattle.std.proofs.lemmas.List.{take_all}
use Rattle.serde_json.specs.Data.{array, string}
use Rattle.serde_json.proofs.Views.{view-Array}
use Rattle.mol_log_rows.specs.lines.Objects.{text_items}
use Rattle.mol_log_rows.proofs.lines_lemmas.TextItems.{add_text}
use Rattle.mol_log_rows.proofs.lines.header.tags_value.Goals as goal

pub loop-tag-preserved : goal.loop-tag-preserved
loop-tag-preserved c =
    let value = add_text c.loop-tag.items.items c.in_ok-try_from_str.field-0 c.args.tags.now c.loop-tag.tag-index c.tag-item.result c.loop-tag-test.true (sym c.tag-item.is) c.loop-tag.invariant
    (c.in_ok-try_from_str.ensures ∙ ap string c.as_str.ensures) in
    search rules

pub returns : goal.returns
returns c =
    view-Array c.loop-tag.items ∙ ap array (c.loop-tag.invariant ∙ ap text_items (take_all c.loop-tag.tag-index c.args.tags.now c.loop-tag-test.false))
