use Rattle.std.proofs.Common.{◌≡◌, ◌≤◌, map, length, nat_cmp}
use Rattle.jav_names.specs.seen.Kept.{view_type}
use Rattle.mol_resolve_rules.specs.FaultLists.{same_types}
use Rattle.mol_resolve_classes.proofs.namesakes_lemmas.InTurn.{alike}
use Rattle.mol_resolve_classes.proofs.namesakes.declaration.same_types.Given as goal

abbrev pub invariant-loop-place : goal.invariant-loop-place
invariant-loop-place l = (l.place ≤ length l.former) × (l.place ≤ length l.latter)
    × (same_types nat_cmp (map view_type l.former) (map view_type l.latter) ≡ alike l.former l.latter l.place)
