use Rattle.std.proofs.Common.{◌≡◌, ◌≤◌, map, length}
use Rattle.jav_names.specs.seen.Kept.{view_type}
use Rattle.mol_resolve_classes.specs.signatures.TypeOrder.{types_cmp}
use Rattle.mol_resolve_classes.proofs.signatures_lemmas.InTurn.{compared}
use Rattle.mol_resolve_classes.proofs.signatures.type_order.compare_types.Given as goal

abbrev pub invariant-loop-place : goal.invariant-loop-place
invariant-loop-place l = (l.place ≤ length l.former) × (l.place ≤ length l.latter)
    × (types_cmp (map view_type l.former) (map view_type l.latter) ≡ compared l.former l.latter l.place)
