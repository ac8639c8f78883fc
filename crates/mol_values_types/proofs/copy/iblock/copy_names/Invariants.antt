use Rattle.std.proofs.Common.{◌≡◌, take}
use Rattle.mol_values_types.proofs.copy.iblock.copy_names.Given as goal

abbrev pub invariant-loop-item : goal.invariant-loop-item
invariant-loop-item l = l.all ≡ take l.item-index l.items
