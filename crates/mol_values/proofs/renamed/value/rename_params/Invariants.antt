use Rattle.std.proofs.Common.{◌≡◌, map, take}
use Rattle.mol_values_types.specs.Renamed.{rename_param}
use Rattle.mol_values.specs.Renaming.{name_in}
use Rattle.mol_values.proofs.renamed.value.rename_params.Given as goal

abbrev pub invariant-loop-item : goal.invariant-loop-item
invariant-loop-item l = l.all ≡ map (rename_param (name_in l.names.entries)) (take l.item-index l.items)
