use Rattle.std.proofs.Common.{◌≡◌, take}
use Rattle.mol_values_types.proofs.+copy_iexpr.Given as goal

abbrev pub invariant-copy::iexpr::copy_all-loop-item : goal.invariant-copy::iexpr::copy_all-loop-item
invariant-copy::iexpr::copy_all-loop-item l = l.all ≡ take l.item-index l.items

abbrev pub invariant-copy::iexpr::copy_arguments-loop-item : goal.invariant-copy::iexpr::copy_arguments-loop-item
invariant-copy::iexpr::copy_arguments-loop-item l = l.all ≡ take l.item-index l.items
