use Rattle.mol_spell_body.proofs.Looped.{each-goes}
use Rattle.mol_spell_body.proofs.body_writer.BodyWriter.each_header.Goals as goal
use Rattle.mol_spell_places.specs.body_locals.Kept.{locals_of}

pub returns : goal.returns
returns g c =
    let writer = g.P.Places.writer c.args.self.now.places.now in
    let locals = locals_of c.args.locals.now in
    each-goes writer locals c.args.is_final c.args.ty.now c.args.name.now c.args.e.now _ _ c.in_ok-header.ensures c.in_ok-declare.ensures.ok
