use Rattle.std.proofs.Common.{◌≡◌}
use Rattle.jav_tree.specs.Types.{array_of}
use Rattle.jav_parse_cursor.proofs.types.array_of.Given as goal

abbrev pub invariant-loop-pair : goal.invariant-loop-pair
invariant-loop-pair l = l.ty ≡ array_of l._pair l.fn.base
