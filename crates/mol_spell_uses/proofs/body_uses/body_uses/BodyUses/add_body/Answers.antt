use Rattle.std.proofs.lemmas.Result.{on_ok_weaker}
use Rattle.mol_spell_places.specs.body_locals.Kept.{locals_of}
use Rattle.mol_spell_uses.proofs.body_uses_lemmas.ValueUses.{body-used}
use Rattle.mol_spell_uses.proofs.body_uses.body_uses.BodyUses.add_body.Goals as goal

pub returns : goal.returns
returns g c =
    on_ok_weaker c.add_block.result (body-used (g.P.Places.writer c.args.self.now.places.now) c.args.body.now
    (locals_of c.new-locals.result) _ c.args.uses.now _ c.new-locals.ensures) c.add_block.ensures
