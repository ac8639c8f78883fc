use Rattle.mol_spell_body.proofs.Looped.{no-start, start-of-exprs, start-of-let}
use Rattle.mol_spell_body.proofs.body_writer.BodyWriter.for_start.Goals as goal
use Rattle.mol_spell_places.specs.body_locals.Kept.{locals_of}

pub returns-in-None : goal.returns-in-None
returns-in-None g c =
    let writer = g.P.Places.writer c.args.self.now.places.now in
    let locals = locals_of c.args.locals.now in
    no-start writer c.args.start.now locals c.in-None.is

pub returns-in_ok-declaration-in-Let : goal.returns-in_ok-declaration-in-Let
returns-in_ok-declaration-in-Let g c =
    let writer = g.P.Places.writer c.args.self.now.places.now in
    let locals = locals_of c.args.locals.now in
    start-of-let writer c.args.start.now _ _ locals _ c.in-Let.is c.in_ok-declaration-in-Let.ensures

pub returns-in_ok-exprs-in-Do : goal.returns-in_ok-exprs-in-Do
returns-in_ok-exprs-in-Do g c =
    let writer = g.P.Places.writer c.args.self.now.places.now in
    let locals = locals_of c.args.locals.now in
    start-of-exprs writer c.args.start.now _ _ _ locals c.in-Do.is c.items.ensures c.in_ok-exprs-in-Do.ensures
