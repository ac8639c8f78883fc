use Rattle.mol_faults_support.proofs.Going.{Goes}
use Rattle.mol_faults_support.proofs.ways.go_up.Given as goal

abbrev pub invariant-loop : goal.invariant-loop
invariant-loop l = Goes l.table l.steps l.initial.met.keys l.class l.met.keys l.at l.counter
