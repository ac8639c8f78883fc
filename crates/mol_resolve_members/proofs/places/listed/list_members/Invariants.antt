use Rattle.std.proofs.Common.{◌≡◌, map, take, flat_map}
use Rattle.mol_resolve_members.specs.places.Listings.{as_listed, members_in}
use Rattle.mol_resolve_members.proofs.places.listed.list_members.Given as goal

abbrev pub invariant-loop-unit : goal.invariant-loop-unit
invariant-loop-unit l = map as_listed l.listed.items ≡ flat_map (members_in l.sources) (take l.unit-index l.order)
