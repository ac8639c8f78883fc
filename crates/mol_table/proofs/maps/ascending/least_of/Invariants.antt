use Rattle.std.proofs.Common.{◌≡◌, take, false}
use Rattle.std.specs.List.{All, Contains}
use Rattle.std.specs.Ordering.{is_lt}
use Rattle.mol_base.specs.Order.{id_cmp}
use Rattle.mol_table.proofs.maps.ascending.least_of.Given as goal

abbrev pub invariant-loop-id : goal.invariant-loop-id
invariant-loop-id l = record {
  there : Contains l.ids l.least;
  least : All (λ id. is_lt (id_cmp id l.least) ≡ false) (take l.id-index l.ids);
}
