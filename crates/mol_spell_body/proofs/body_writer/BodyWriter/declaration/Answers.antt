use Rattle.std.proofs.lemmas.Result.{IfOk-weaker}
use Rattle.mol_spell_body.proofs.Declared.{let-goes}
use Rattle.mol_spell_body.proofs.HandedOver.{with_part}
use Rattle.mol_spell_body.proofs.body_writer.BodyWriter.declaration.Goals as goal
use Rattle.mol_spell_places.specs.body_locals.Kept.{locals_of}

pub returns : goal.returns
returns g c =
    let writer = g.P.Places.writer c.args.self.now.places.now in
    let locals = locals_of c.args.locals.now in
    IfOk-weaker c.let_of.result _ _ (λ tree made. with_part c.declarators-names.result _ _ _ made c.declarators-names.ensures
    (λ names is goes.
    let-goes writer c.args.declared.now _ _ names tree locals _ c.items.ensures c.in_ok-ty.ensures goes is)) c.let_of.ensures
