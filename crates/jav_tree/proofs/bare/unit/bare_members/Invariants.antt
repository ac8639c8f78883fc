use Rattle.std.proofs.Common.{◌≡◌, map, take}
use Rattle.jav_tree.specs.Parens.{member_without_parens}
use Rattle.jav_tree.proofs.bare.unit.bare_members.Given as goal

abbrev pub invariant-loop-member : goal.invariant-loop-member
invariant-loop-member l = l.all ≡ map member_without_parens (take l.member-index l.members)
