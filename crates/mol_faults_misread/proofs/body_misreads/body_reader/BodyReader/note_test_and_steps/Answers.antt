use Rattle.std.proofs.lemmas.Result.{on_ok_weaker}
use Rattle.mol_spell_places.specs.body_locals.Kept.{locals_of}
use Rattle.mol_faults_misread.proofs.body_misreads.body_reader.BodyReader.note_test_and_steps.Goals as goal
use Rattle.mol_faults_misread.specs.body_misreads.PartReferences.{maybe_references}
use Rattle.mol_faults_expr.proofs.NotedMore.{noted-both}
use Rattle.mol_faults_expr.specs.References.{all_references}

pub returns : goal.returns
returns g c =
    let writer = g.P.Places.writer c.args.self.now.places.now in
    let locals = locals_of c.args.locals.now in
    on_ok_weaker c.note_all.result (noted-both writer c.args.misreads.now _ _ (maybe_references writer locals c.args.test.now)
    (all_references writer locals c.args.steps.now) c.in_ok-note_maybe.ensures) c.note_all.ensures
