use Rattle.std.proofs.Common.{ap, option_copied}
use Rattle.std.proofs.lemmas.Result.{on_ok_weaker}
use Rattle.mol_spell_uses.proofs.body_uses.body_uses.BodyUses.add_value.Goals as goal
use Rattle.mol_spell_uses.specs.body_uses.PartUses.{value_uses}
use Rattle.mol_spell_uses.proofs.uses_lemmas.Added.{adds, adds-none}

pub returns-in-Some : goal.returns-in-Some
returns-in-Some g c =
    let writer = g.P.Places.writer c.args.self.now.places.now in
    on_ok_weaker c.add_held.result (adds c.args.uses.now _ _ _ (ap (λ value. value_uses writer (option_copied value)) c.in-Some.is))
    c.add_held.ensures

pub returns-in-None : goal.returns-in-None
returns-in-None g c =
    let writer = g.P.Places.writer c.args.self.now.places.now in
    adds-none c.args.uses.now _ (ap (λ value. value_uses writer (option_copied value)) c.in-None.is)
