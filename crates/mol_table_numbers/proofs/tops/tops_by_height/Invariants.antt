use Rattle.std.proofs.Common.{take}
use Rattle.mol_table_numbers.specs.Tops.{AreHeights, AreTops}
use Rattle.mol_table_numbers.proofs.tops.tops_by_height.Given as goal

abbrev pub invariant-loop-id : goal.invariant-loop-id
invariant-loop-id l = record {
  tops : AreTops l.maps (take l.id-index l.id-items) l.tops.entries;
  known : AreHeights l.maps l.heights.entries;
}
