use Rattle.std.proofs.Common.{◌≡◌, ◌++◌, length, option_map}
use Rattle.std.specs.Vec.Iter.{into_iter_items, into_iter_len}
use Rattle.serde_json.specs.View.{items_view}
use Rattle.mol_log_rows.specs.lines.Reader.{texts_in}
use Rattle.mol_log_rows.proofs.lines.parts.texts_of.Given as goal

abbrev pub invariant-loop-item : goal.invariant-loop-item
invariant-loop-item l =
    (texts_in (items_view (into_iter_items l.initial.item-iterator)) ≡ option_map (λ more. l.texts ++ more) (texts_in (items_view (into_iter_items l.item-iterator))))
    × (into_iter_len l.item-iterator ≡ length (into_iter_items l.item-iterator))
