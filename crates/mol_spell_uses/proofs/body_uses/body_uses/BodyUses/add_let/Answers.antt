use Rattle.std.proofs.lemmas.Result.{on_ok_weaker}
use Rattle.mol_spell_places.specs.body_locals.Kept.{locals_of}
use Rattle.mol_spell_uses.proofs.body_uses_lemmas.DeclarationUses.{let-goes}
use Rattle.mol_spell_uses.proofs.body_uses.body_uses.BodyUses.add_let.Goals as goal

pub returns : goal.returns
returns g c =
    let writer = g.P.Places.writer c.args.self.now.places.now in
    let locals = locals_of c.args.locals.now in
    on_ok_weaker c.add_declarators.result (let-goes writer c.args.declared.now _ locals _ c.args.uses.now _ _ c.items.ensures
    (c.in_ok-add_declared_type.ensures writer locals)) c.add_declarators.ensures
