use Rattle.std.proofs.Common.{◌≡◌, map}
use Rattle.std.specs.List.{range_with_len}
use Rattle.jav_scope.specs.Entries.{view_in}
use Rattle.jav_scope.specs.ascent.Circles.{link_up}
use Rattle.jav_scope.proofs.ascent.super_circles.links.Given as goal

abbrev pub invariant-loop-class : goal.invariant-loop-class
invariant-loop-class l = l.links.items ≡ map (link_up (view_in l.scope) l.count) (range_with_len 0 l.class)
