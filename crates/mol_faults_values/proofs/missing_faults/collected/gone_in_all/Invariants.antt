use Rattle.std.proofs.Common.{◌≡◌, ◌++◌, drop}
use Rattle.mol_faults_values.proofs.missing_faults.collected.gone_in_all.Given as goal
use Rattle.mol_faults_values.specs.missing_faults.Gone.{gone_in_all}

abbrev pub invariant-loop-id : goal.invariant-loop-id
invariant-loop-id l =
    l.gone.items ++ gone_in_all l.table l.tidied (drop l.id-index l.ids) ≡ gone_in_all l.table l.tidied l.ids
