use Rattle.std.proofs.Common.{ap, ◌∙◌, sym, rules}
use Rattle.std.proofs.lemmas.List.{take_all}
use Rattle.serde_json.specs.Data.{array, string}
use Rattle.serde_json.proofs.Views.{view-Array}
use Rattle.mol_log_rows.specs.lines.Objects.{text_items}
use Rattle.mol_log_rows.proofs.lines_lemmas.TextItems.{add_text}
use Rattle.mol_log_objects.proofs.object.texts_value.Goals as goal

pub loop-text-preserved : goal.loop-text-preserved
loop-text-preserved c =
    let value = add_text c.loop-text.items.items c.in_ok-try_from_str.field-0 c.args.texts.now c.loop-text.text-index c.text-item.result
    c.loop-text-test.true (sym c.text-item.is) c.loop-text.invariant (c.in_ok-try_from_str.ensures ∙ ap string c.as_str.ensures) in
    search rules

pub returns : goal.returns
returns c =
    view-Array c.loop-text.items
    ∙ ap array (c.loop-text.invariant ∙ ap text_items (take_all c.loop-text.text-index c.args.texts.now c.loop-text-test.false))
