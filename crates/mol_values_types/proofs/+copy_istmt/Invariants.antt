use Rattle.std.proofs.Common.{◌≡◌, take}
use Rattle.mol_values_types.proofs.+copy_istmt.Given as goal

abbrev pub invariant-copy::iblock::copy_stmts-loop-item : goal.invariant-copy::iblock::copy_stmts-loop-item
invariant-copy::iblock::copy_stmts-loop-item l = l.all ≡ take l.item-index l.items
