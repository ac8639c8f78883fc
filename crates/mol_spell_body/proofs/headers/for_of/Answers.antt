use Rattle.std.proofs.Common.{◌≡◌, ◌∙◌, sym, ap, subst}
use Rattle.std.proofs.lemmas.Result.{IfOk-weaker}
use Rattle.std.specs.Prelude.{IsOkAnd}
use Rattle.mol_spell_body.proofs.headers.for_of.Goals as goal
use Rattle.mol_spell_body.specs.declared.headers.Header.TheVariants as header

pub returns : goal.returns
returns c =
    IfOk-weaker c.new.result _ _ (λ made is.
    subst (λ r. IsOkAnd r (λ steps. made ≡ header.For c.args.start c.args.test steps)) (sym c.in_ok-steps.was)
    (is ∙ ap (λ start. header.For start c.args.test c.in_ok-steps.steps) c.into_inner.ensures)) c.new.ensures
