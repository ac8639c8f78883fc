use Rattle.std.proofs.Common.{refl}
use Rattle.mol_faults_misread.proofs.body_misreads_lemmas.Noting.{notes-none}
use Rattle.mol_faults_misread.proofs.body_misreads.body_reader.BodyReader.note_params.Goals as goal
use Rattle.mol_faults_misread.specs.body_misreads.PartReferences.{declared_references}
use Rattle.mol_faults_expr.proofs.NotedMore.{noted-more, noted-whole}
use Rattle.mol_resolve_rules.specs.Locals.{no_locals}
use Rattle.mol_values_types.specs.declared.param.Param.{Param}

pub loop-param-init : goal.loop-param-init
loop-param-init g c = notes-none (g.P.Places.writer c.args.self.now.places.now) c.args.misreads.now _ refl

pub loop-param-preserved : goal.loop-param-preserved
loop-param-preserved g c =
    let writer = g.P.Places.writer c.args.self.now.places.now in
    noted-more writer (λ (param : Param). declared_references writer no_locals param.ty) c.args.params.now c.loop-param.param-index
    c.param-item.result _ _ _ c.loop-param-test.true c.param-item.is c.loop-param.invariant c.in_ok-note_header_type.ensures

pub returns : goal.returns
returns g c =
    let writer = g.P.Places.writer c.args.self.now.places.now in
    noted-whole writer (λ (param : Param). declared_references writer no_locals param.ty) c.args.params.now c.loop-param.param-index _ _
    c.loop-param-test.false c.loop-param.invariant
