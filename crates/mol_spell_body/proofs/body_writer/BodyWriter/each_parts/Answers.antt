use Rattle.std.proofs.Common.{◌∙◌}
use Rattle.std.proofs.lemmas.Result.{IfOk-weaker}
use Rattle.mol_spell_body.proofs.HandedOver.{with_part}
use Rattle.mol_spell_body.proofs.body_writer.BodyWriter.each_parts.Goals as goal
use Rattle.mol_spell_body.specs.declared.headers.Header.TheVariants as header
use Rattle.mol_spell_places.specs.body_locals.Kept.{locals_of}

pub returns : goal.returns
returns g c =
    let writer = g.P.Places.writer c.args.self.now.places.now in
    let locals = locals_of c.args.locals.now in
    let is_final = c.args.is_final in
    IfOk-weaker c.each_of.result _ _ (λ made m. with_part c.expr.result _ _ _ m c.expr.ensures (λ e is_made is.
    is_made ∙ (λ i. header.Each is_final (c.in_ok-ty.ensures i) (c.in_ok-name.ensures i) (is i)))) c.each_of.ensures
