use Rattle.std.proofs.Common.{◌≡◌, ◌+◌, map, take, sum_by}
use Rattle.mol_resolve_members.specs.places.Counts.{members_at}
use Rattle.mol_resolve_rules.specs.Numbering.{below}
use Rattle.mol_resolve_members.proofs.places.places.counts_before.Given as goal

abbrev pub invariant-loop-unit : goal.invariant-loop-unit
invariant-loop-unit l = record {
  counted : l.count ≡ sum_by (members_at l.sources) (take l.unit-index l.order);
  listed : l.before.items ≡ map (λ place. sum_by (members_at l.sources) (take place l.order)) (below (l.unit-index + 1));
}
