use Rattle.std.proofs.Common.{length}
use Rattle.std.proofs.lemmas.Result.{on_ok_weaker}
use Rattle.mol_spell_places.specs.body_locals.Kept.{locals_of}
use Rattle.mol_faults_misread.proofs.body_misreads.body_reader.BodyReader.note_super.Goals as goal
use Rattle.mol_faults_misread.specs.body_misreads.PartReferences.{super_reference}
use Rattle.mol_faults_expr.proofs.NotedMore.{noted-first}
use Rattle.mol_faults_expr.specs.References.{argument_references}
use Rattle.mol_spell_rules.specs.references.References.{method_target}

pub returns : goal.returns
returns g c =
    let writer = g.P.Places.writer c.args.self.now.places.now in
    let locals = locals_of c.args.locals.now in
    on_ok_weaker c.note_arguments.result (noted-first writer c.args.misreads.now _ _
    (super_reference writer locals (method_target c.args.constructor.now) (length c.args.args.now))
    (argument_references writer locals c.args.args.now)
    c.in_ok-note_superclass.ensures) c.note_arguments.ensures
