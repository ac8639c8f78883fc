use Rattle.std.proofs.lemmas.Result.{IfOk-weaker}
use Rattle.mol_spell_body.proofs.Declared.{declarator-goes}
use Rattle.mol_spell_body.proofs.body_writer.BodyWriter.declarator.Goals as goal
use Rattle.mol_spell_places.specs.body_locals.Kept.{locals_of}

pub returns : goal.returns
returns g c =
    let writer = g.P.Places.writer c.args.self.now.places.now in
    let locals = locals_of c.args.locals.now in
    IfOk-weaker c.declarator_of.result _ _ (λ tree is.
    declarator-goes writer c.args.ty.now c.args.declared.now _ tree locals _ c.in_ok-declare.ensures.ok c.in_ok-init.ensures is)
    c.declarator_of.ensures
