use Rattle.std.proofs.lemmas.Result.{on_ok_weaker}
use Rattle.mol_spell_places.specs.body_locals.Kept.{locals_of}
use Rattle.mol_spell_uses.proofs.body_uses.body_uses.BodyUses.add_typed.Goals as goal
use Rattle.mol_spell_uses.proofs.uses_lemmas.Added.{adds-both}

pub returns : goal.returns
returns g c =
    on_ok_weaker c.add_expr.result (adds-both c.args.uses.now _ _ _ _
    (c.in_ok-add_declared_type.ensures (g.P.Places.writer c.args.self.now.places.now) (locals_of c.args.locals.now))) c.add_expr.ensures
