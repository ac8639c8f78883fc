use Rattle.std.proofs.Common.{◌≡◌, ◌+◌, map}
use Rattle.mol_resolve_rules.specs.Numbering.{below}
use Rattle.mol_resolve_members.specs.numbers.Given.{first_after}
use Rattle.mol_resolve_members.proofs.numbers.firsts.firsts.Given as goal

abbrev pub invariant-loop-member : goal.invariant-loop-member
invariant-loop-member l = record {
  counted : l.next ≡ first_after l.places l.member-index;
  found : l.firsts.items ≡ map (first_after l.places) (below (l.member-index + 1));
}
