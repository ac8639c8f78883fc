use Rattle.std.proofs.Common.{◌≡◌, map, take}
use Rattle.mol_scope_members.specs.declaring.Owners.{with_position}
use Rattle.mol_scope_members.proofs.declaring.owners.placed.Given as goal

abbrev pub invariant-loop-owner : goal.invariant-loop-owner
invariant-loop-owner l = l.placed.items ≡ map (with_position l.paths.positions.entries) (take l.owner-index l.owners)
