use Rattle.std.proofs.Common.{codes, length}
use Rattle.std.proofs.lemmas.Result.{on_ok_weaker}
use Rattle.mol_spell_places.specs.body_locals.Kept.{locals_of}
use Rattle.mol_faults_misread.proofs.body_misreads.body_reader.BodyReader.note_super_outside.Goals as goal
use Rattle.mol_faults_misread.specs.body_misreads.PartReferences.{super_reference}
use Rattle.mol_faults_expr.proofs.NotedMore.{noted-first}
use Rattle.mol_faults_expr.specs.References.{all_references}
use Rattle.mol_spell_rules.specs.references.References.{outside_target}

pub returns : goal.returns
returns g c =
    let writer = g.P.Places.writer c.args.self.now.places.now in
    let locals = locals_of c.args.locals.now in
    on_ok_weaker c.note_all.result (noted-first writer c.args.misreads.now _ _
    (super_reference writer locals (outside_target (codes "super")) (length c.args.args.now)) (all_references writer locals c.args.args.now)
    c.in_ok-note_superclass.ensures) c.note_all.ensures
