use Rattle.std.proofs.lemmas.Result.{IfOk-weaker}
use Rattle.mol_spell_body.proofs.HandedOver.{with_part}
use Rattle.mol_spell_body.proofs.Looped.{for-goes}
use Rattle.mol_spell_body.proofs.body_writer.BodyWriter.for_header.Goals as goal
use Rattle.mol_spell_places.specs.body_locals.Kept.{locals_of}

pub returns : goal.returns
returns g c =
    let writer = g.P.Places.writer c.args.self.now.places.now in
    let locals = locals_of c.args.locals.now in
    IfOk-weaker c.for_of.result _ _ (λ header made. with_part c.exprs.result _ _ _ made c.exprs.ensures (λ steps is_made are.
    for-goes writer c.args.start.now c.args.test.now c.args.steps.now _ _ steps header locals _ c.in_ok-start.ensures c.in_ok-test.ensures
    are is_made)) c.for_of.ensures
