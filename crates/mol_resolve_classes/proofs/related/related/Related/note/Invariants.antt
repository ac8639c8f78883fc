use Rattle.std.proofs.Common.{◌≡◌, flat_map, map, take}
use Rattle.mol_resolve_members.specs.members.Rows.{kept_row}
use Rattle.mol_resolve_faults.specs.First.{all_noted}
use Rattle.mol_resolve_members.specs.sources.Sources.{files_of}
use Rattle.mol_resolve_rules.specs.FaultLists.{faults_beside}
use Rattle.mol_resolve_classes.proofs.related.related.Related.note.Given as goal

abbrev pub invariant-loop-row : goal.invariant-loop-row
invariant-loop-row l =
    l.faults ≡ all_noted l.fn.faults (flat_map (faults_beside (files_of l.self)) (map kept_row (take l.row-index l.rows)))
