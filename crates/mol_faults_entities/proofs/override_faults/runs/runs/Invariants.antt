use Rattle.mol_faults_entities.proofs.override_faults_lemmas.RunsMarked.{IsMarked}
use Rattle.mol_faults_entities.proofs.override_faults.runs.runs.Given as goal

abbrev pub invariant-loop-place : goal.invariant-loop-place
invariant-loop-place l = IsMarked l.rows l.runs.items l.start l.place
