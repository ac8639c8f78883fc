use Rattle.std.proofs.Common.{◌≡◌, ◌++◌, map, take}
use Rattle.jav_names.specs.UnitViews.{numbered}
use Rattle.mol_resolve_members.specs.places.Listings.{as_listed, with_key}
use Rattle.mol_resolve_members.proofs.places.listed.list_file.Given as goal

abbrev pub invariant-loop-place : goal.invariant-loop-place
invariant-loop-place l = map as_listed l.listed.items
    ≡ map as_listed l.fn.listed.items ++ map (with_key l.unit) (numbered (take l.place l.members))
