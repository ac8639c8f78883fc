use Rattle.std.proofs.Common.{◌≡◌, ◌++◌, drop}
use Rattle.std.specs.List.{flat_map}
use Rattle.mol_faults_support.specs.Cells.{own_life}
use Rattle.mol_faults_support.proofs.life.add_own_lives.Given as goal

abbrev pub invariant-loop-id : goal.invariant-loop-id
invariant-loop-id l = l.cells.items ++ flat_map (own_life l.table) (drop l.id-index l.ids)
    ≡ l.initial.cells.items ++ flat_map (own_life l.table) l.ids
