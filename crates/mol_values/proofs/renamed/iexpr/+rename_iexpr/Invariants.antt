use Rattle.std.proofs.Common.{◌≡◌, map, take}
use Rattle.mol_values_types.specs.Renamed.{rename_expr, rename_argument}
use Rattle.mol_values.specs.Renaming.{name_in}
use Rattle.mol_values.proofs.renamed.iexpr.+rename_iexpr.Given as goal

abbrev pub invariant-rename_all-loop-item : goal.invariant-rename_all-loop-item
invariant-rename_all-loop-item l = l.all ≡ map (rename_expr (name_in l.names.entries)) (take l.item-index l.items)

abbrev pub invariant-rename_arguments-loop-item : goal.invariant-rename_arguments-loop-item
invariant-rename_arguments-loop-item l = l.all ≡ map (rename_argument (name_in l.names.entries)) (take l.item-index l.items)
