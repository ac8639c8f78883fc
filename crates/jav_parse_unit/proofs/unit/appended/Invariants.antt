use Rattle.std.proofs.Common.{◌≡◌, ◌++◌}
use Rattle.jav_parse_unit.proofs.unit.appended.Given as goal

abbrev pub invariant-loop-member : goal.invariant-loop-member
invariant-loop-member l = l.all ≡ l.fn.front ++ l.yielded
