use Rattle.std.proofs.Common.{◌≡◌, map, take}
use Rattle.mol_values_types.specs.Renamed.{rename_declarator}
use Rattle.mol_values.specs.Renaming.{name_in}
use Rattle.mol_values.proofs.renamed.iblock.rename_names.Given as goal

abbrev pub invariant-loop-item : goal.invariant-loop-item
invariant-loop-item l = l.all ≡ map (rename_declarator (name_in l.names.entries)) (take l.item-index l.items)
