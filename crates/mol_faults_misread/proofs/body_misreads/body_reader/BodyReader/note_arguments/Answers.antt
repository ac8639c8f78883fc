use Rattle.std.proofs.Common.{refl}
use Rattle.mol_spell_places.specs.body_locals.Kept.{locals_of}
use Rattle.mol_faults_misread.proofs.body_misreads_lemmas.Noting.{notes-none}
use Rattle.mol_faults_misread.proofs.body_misreads.body_reader.BodyReader.note_arguments.Goals as goal
use Rattle.mol_faults_expr.proofs.NotedMore.{noted-more, noted-whole}
use Rattle.mol_faults_expr.specs.References.{expr_references}
use Rattle.mol_values_types.specs.declared.iexpr.Argument.{Argument}

pub loop-arg-init : goal.loop-arg-init
loop-arg-init g c = notes-none (g.P.Places.writer c.args.self.now.places.now) c.args.misreads.now _ refl

pub loop-arg-preserved : goal.loop-arg-preserved
loop-arg-preserved g c =
    let writer = g.P.Places.writer c.args.self.now.places.now in
    noted-more writer (λ (argument : Argument). expr_references writer (locals_of c.args.locals.now) argument.value) c.args.args.now
    c.loop-arg.arg-index c.arg-item.result _ _ _ c.loop-arg-test.true c.arg-item.is c.loop-arg.invariant c.in_ok-note_expr.ensures

pub returns : goal.returns
returns g c =
    let writer = g.P.Places.writer c.args.self.now.places.now in
    noted-whole writer (λ (argument : Argument). expr_references writer (locals_of c.args.locals.now) argument.value) c.args.args.now
    c.loop-arg.arg-index _ _ c.loop-arg-test.false c.loop-arg.invariant
