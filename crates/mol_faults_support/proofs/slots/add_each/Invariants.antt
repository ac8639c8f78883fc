use Rattle.std.proofs.Common.{◌≡◌, ◌++◌, drop}
use Rattle.std.specs.List.{flat_map}
use Rattle.mol_faults_support.specs.Cells.{cells_of}
use Rattle.mol_faults_support.proofs.slots.add_each.Given as goal

abbrev pub invariant-loop-id : goal.invariant-loop-id
invariant-loop-id l = l.cells.items ++ flat_map (cells_of l.slots) (drop l.id-index l.ids)
    ≡ l.initial.cells.items ++ flat_map (cells_of l.slots) l.ids
