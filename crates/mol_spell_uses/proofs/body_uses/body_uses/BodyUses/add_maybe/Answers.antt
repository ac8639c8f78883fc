use Rattle.std.proofs.Common.{ap}
use Rattle.mol_spell_places.specs.body_locals.Kept.{locals_of}
use Rattle.mol_spell_uses.proofs.body_uses.body_uses.BodyUses.add_maybe.Goals as goal
use Rattle.mol_spell_uses.specs.body_uses.PartUses.{maybe_uses}
use Rattle.mol_spell_uses.proofs.uses_lemmas.Added.{adds-none}

pub returns-in-None : goal.returns-in-None
returns-in-None g c =
    adds-none c.args.uses.now _
    (ap (maybe_uses (g.P.Places.writer c.args.self.now.places.now) (locals_of c.args.locals.now)) c.in-None.is)
