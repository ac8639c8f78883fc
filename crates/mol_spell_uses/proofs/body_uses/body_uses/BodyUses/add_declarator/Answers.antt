use Rattle.std.proofs.lemmas.Result.{on_ok_weaker}
use Rattle.mol_spell_places.specs.body_locals.Kept.{locals_of}
use Rattle.mol_spell_uses.proofs.body_uses_lemmas.DeclarationUses.{declarator-goes}
use Rattle.mol_spell_uses.proofs.body_uses.body_uses.BodyUses.add_declarator.Goals as goal

pub returns : goal.returns
returns g c =
    on_ok_weaker c.add_maybe.result (declarator-goes (g.P.Places.writer c.args.self.now.places.now) c.args.ty.now c.args.declared.now
    (locals_of c.args.locals.now) _ c.args.uses.now _ c.in_ok-declare.ensures.ok) c.add_maybe.ensures
