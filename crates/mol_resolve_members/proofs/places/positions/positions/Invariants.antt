use Rattle.std.proofs.Common.{◌≡◌, length}
use Rattle.mol_resolve_members.proofs.places_lemmas.OrderPlaces.{PlacedFrom}
use Rattle.mol_resolve_members.proofs.places.positions.positions.Given as goal

abbrev pub invariant-loop-place : goal.invariant-loop-place
invariant-loop-place l = record {
  size : length l.places.items ≡ length l.order;
  placed : PlacedFrom l.order l.place l.places.items;
}
