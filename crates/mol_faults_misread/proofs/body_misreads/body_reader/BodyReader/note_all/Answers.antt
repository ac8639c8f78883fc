use Rattle.std.proofs.Common.{refl}
use Rattle.mol_spell_places.specs.body_locals.Kept.{locals_of}
use Rattle.mol_faults_misread.proofs.body_misreads_lemmas.Noting.{notes-none}
use Rattle.mol_faults_misread.proofs.body_misreads.body_reader.BodyReader.note_all.Goals as goal
use Rattle.mol_faults_expr.proofs.NotedMore.{noted-more, noted-whole}
use Rattle.mol_faults_expr.specs.References.{expr_references}

pub loop-item-init : goal.loop-item-init
loop-item-init g c = notes-none (g.P.Places.writer c.args.self.now.places.now) c.args.misreads.now _ refl

pub loop-item-preserved : goal.loop-item-preserved
loop-item-preserved g c =
    let writer = g.P.Places.writer c.args.self.now.places.now in
    noted-more writer (expr_references writer (locals_of c.args.locals.now)) c.args.items.now c.loop-item.item-index c.item-item.result
    _ _ _ c.loop-item-test.true c.item-item.is c.loop-item.invariant c.in_ok-note_expr.ensures

pub returns : goal.returns
returns g c =
    let writer = g.P.Places.writer c.args.self.now.places.now in
    noted-whole writer (expr_references writer (locals_of c.args.locals.now)) c.args.items.now c.loop-item.item-index _ _
    c.loop-item-test.false c.loop-item.invariant
