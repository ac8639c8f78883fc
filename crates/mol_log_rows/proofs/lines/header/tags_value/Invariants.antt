use Rattle.std.proofs.Common.{◌≡◌, take}
use Rattle.serde_json.specs.View.{items_view}
use Rattle.mol_log_rows.specs.lines.Objects.{text_items}
use Rattle.mol_log_rows.proofs.lines.header.tags_value.Given as goal

abbrev pub invariant-loop-tag : goal.invariant-loop-tag
invariant-loop-tag l = items_view l.items.items ≡ text_items (take l.tag-index l.tags)
