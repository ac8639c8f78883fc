use Rattle.std.proofs.lemmas.Result.{on_ok_weaker}
use Rattle.mol_spell_places.specs.body_locals.Kept.{locals_of}
use Rattle.mol_spell_uses.proofs.body_uses_lemmas.DeclarationUses.{no-start, start-of-exprs, start-of-let}
use Rattle.mol_spell_uses.proofs.body_uses.body_uses.BodyUses.add_start.Goals as goal

pub returns-in-None : goal.returns-in-None
returns-in-None g c =
    no-start (g.P.Places.writer c.args.self.now.places.now) c.args.start.now (locals_of c.args.locals.now) c.args.uses.now c.in-None.is

pub returns-in-Let : goal.returns-in-Let
returns-in-Let g c =
    on_ok_weaker c.add_let.result (start-of-let (g.P.Places.writer c.args.self.now.places.now) c.args.start.now
    (locals_of c.args.locals.now) c.args.uses.now _ _ _ c.in-Let.is) c.add_let.ensures

pub returns-in-Do : goal.returns-in-Do
returns-in-Do g c =
    on_ok_weaker c.add_all.result (start-of-exprs (g.P.Places.writer c.args.self.now.places.now) c.args.start.now
    (locals_of c.args.locals.now) c.args.uses.now _ _ _ c.in-Do.is c.items.ensures) c.add_all.ensures
