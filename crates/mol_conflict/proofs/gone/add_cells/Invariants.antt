use Rattle.std.proofs.Common.{◌≡◌, ◌++◌, drop}
use Rattle.mol_conflict.proofs.gone.add_cells.Given as goal
use Rattle.mol_conflict.specs.Found.{gone_in}

abbrev pub invariant-loop-at : goal.invariant-loop-at
invariant-loop-at l =
    l.found.items ++ gone_in l.programs.base.now l.programs.gone.now l.programs.other.now l.tidied (drop l.at-index l.cells)
    ≡ l.initial.found.items ++ gone_in l.programs.base.now l.programs.gone.now l.programs.other.now l.tidied l.cells
