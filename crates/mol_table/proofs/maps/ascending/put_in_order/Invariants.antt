use Rattle.std.proofs.Common.{◌≡◌, ◌+◌, ◌++◌, length, take}
use Rattle.indexmap.specs.IndexMap.{keys}
use Rattle.mol_table.specs.Maps.{knowns_of}
use Rattle.mol_table.proofs.Identities.{Agrees}
use Rattle.mol_table.proofs.maps.ascending.put_in_order.Given as goal

abbrev pub invariant-loop-place : goal.invariant-loop-place
invariant-loop-place l = record {
  agrees : Agrees (l.from + l.place) l.known.entries (take l.from (keys l.fn.known) ++ l.order);
  known : knowns_of l.known.entries ≡ knowns_of l.fn.known.entries;
  len : length l.known.entries ≡ length l.fn.known.entries;
}
