use Rattle.std.proofs.Common.{take}
use Rattle.mol_table_numbers.proofs.TopsSearched.{IsAbove}
use Rattle.mol_table_numbers.proofs.search.is_topmost.Given as goal

abbrev pub invariant-loop-below : goal.invariant-loop-below
invariant-loop-below l = IsAbove l.maps l.fn.method l.fn.decl (take l.below-index l.below-items)
