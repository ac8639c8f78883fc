use Rattle.std.proofs.Common.{◌≡◌, ◌++◌, drop}
use Rattle.std.specs.List.{flat_map}
use Rattle.mol_faults_support.specs.Met.{header_of}
use Rattle.mol_faults_support.proofs.headers.add_headers.Given as goal

abbrev pub invariant-loop-id : goal.invariant-loop-id
invariant-loop-id l = l.cells.items ++ flat_map (header_of l.table) (drop l.id-index l.ids)
    ≡ l.initial.cells.items ++ flat_map (header_of l.table) l.ids
