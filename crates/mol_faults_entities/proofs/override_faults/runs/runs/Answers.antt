use Rattle.mol_faults_entities.proofs.override_faults_lemmas.RunsMarked.{more-marked}
use Rattle.mol_faults_entities.proofs.override_faults.runs.runs.Goals as goal

pub loop-place-preserved : goal.loop-place-preserved
loop-place-preserved c = more-marked c.args.rows.now c.loop-place.runs.items c.push.new.self.items c.loop-place.start
    c.run_start-start.result c.loop-place.place c.loop-place.invariant c.run_start-start.ensures.within c.run_start-start.ensures.run
    c.in_ok-push.ensures.items
