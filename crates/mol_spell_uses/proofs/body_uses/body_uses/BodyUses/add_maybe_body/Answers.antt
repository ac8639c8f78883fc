use Rattle.std.proofs.Common.{Some, ap}
use Rattle.std.proofs.lemmas.Result.{on_ok_weaker}
use Rattle.mol_spell_uses.proofs.body_uses.body_uses.BodyUses.add_maybe_body.Goals as goal
use Rattle.mol_spell_uses.specs.body_uses.PartUses.{value_uses}
use Rattle.mol_spell_uses.proofs.uses_lemmas.Added.{adds, adds-none}
use Rattle.mol_values_types.specs.declared.value.Value.TheVariants as values

pub returns-in-Some : goal.returns-in-Some
returns-in-Some g c =
    let writer = g.P.Places.writer c.args.self.now.places.now in
    on_ok_weaker c.add_body.result (adds c.args.uses.now _ _ _ (ap (λ body. value_uses writer (Some (values.Body body))) c.in-Some.is))
    c.add_body.ensures

pub returns-in-None : goal.returns-in-None
returns-in-None g c =
    let writer = g.P.Places.writer c.args.self.now.places.now in
    adds-none c.args.uses.now _ (ap (λ body. value_uses writer (Some (values.Body body))) c.in-None.is)
