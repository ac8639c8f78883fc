use Rattle.std.proofs.Common.{take}
use Rattle.mol_table_numbers.proofs.TopsSearched.{AreSearched}
use Rattle.mol_table_numbers.proofs.search.tops_by_search.Given as goal

abbrev pub invariant-loop-id : goal.invariant-loop-id
invariant-loop-id l = AreSearched l.maps (take l.id-index l.id-items) l.tops.entries
