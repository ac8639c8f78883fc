use Rattle.std.proofs.Common.{◌≡◌, take}
use Rattle.serde_json.specs.View.{items_view}
use Rattle.mol_log_rows.specs.lines.Objects.{text_items}
use Rattle.mol_log_objects.proofs.object.texts_value.Given as goal

abbrev pub invariant-loop-text : goal.invariant-loop-text
invariant-loop-text l = items_view l.items.items ≡ text_items (take l.text-index l.texts)
