use Rattle.std.proofs.Common.{◌≡◌, map, take}
use Rattle.mol_table.specs.Tidying.{statement_by}
use Rattle.mol_table.proofs.tidy.iblock.+tidy_istmt.Given as goal

abbrev pub invariant-tidy_stmts-loop-item : goal.invariant-tidy_stmts-loop-item
invariant-tidy_stmts-loop-item l = l.all ≡ map (statement_by l.maps l.index.entries) (take l.item-index l.items)
