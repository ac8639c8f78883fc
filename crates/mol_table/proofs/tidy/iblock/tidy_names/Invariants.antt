use Rattle.std.proofs.Common.{◌≡◌, map, take}
use Rattle.mol_table.specs.Tidying.{declarator_by}
use Rattle.mol_table.proofs.tidy.iblock.tidy_names.Given as goal

abbrev pub invariant-loop-item : goal.invariant-loop-item
invariant-loop-item l = l.all ≡ map (declarator_by l.maps l.index.entries) (take l.item-index l.items)
