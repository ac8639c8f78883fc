use Rattle.std.proofs.Common.{◌∙◌, ◌++◌, ap}
use Rattle.std.proofs.lemmas.Result.{on_ok_weaker}
use Rattle.mol_spell_uses.proofs.body_uses.body_uses.BodyUses.add_first_value.Goals as goal
use Rattle.mol_spell_uses.specs.body_uses.PartUses.{maybe_uses}
use Rattle.mol_resolve_rules.specs.Locals.{no_locals}
use Rattle.mol_spell_uses.proofs.uses_lemmas.Added.{adds-both}

pub returns : goal.returns
returns g c =
    let writer = g.P.Places.writer c.args.self.now.places.now in
    on_ok_weaker c.add_maybe.result (λ added. adds-both c.args.uses.now _ _ _ _
    (c.in_ok-add_declared_type.ensures writer no_locals)
    (added ∙ ap (λ locals. c.add_declared_type.new.uses ++ maybe_uses writer locals c.args.init.now) c.new-locals.ensures))
    c.add_maybe.ensures
