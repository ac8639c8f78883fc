use Rattle.std.proofs.Common.{◌≡◌, map, take}
use Rattle.mol_values_types.specs.Renamed.{rename_statement}
use Rattle.mol_values.specs.Renaming.{name_in}
use Rattle.mol_values.proofs.renamed.iblock.+rename_istmt.Given as goal

abbrev pub invariant-rename_stmts-loop-item : goal.invariant-rename_stmts-loop-item
invariant-rename_stmts-loop-item l = l.all ≡ map (rename_statement (name_in l.names.entries)) (take l.item-index l.items)
