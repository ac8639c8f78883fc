use Rattle.std.proofs.Common.{◌≡◌, sym, subst}
use Rattle.std.proofs.lemmas.Result.{IfOk-weaker}
use Rattle.std.specs.Prelude.{IsOkAnd}
use Rattle.mol_spell_body.proofs.headers.each_of.Goals as goal
use Rattle.mol_spell_body.specs.declared.headers.Header.TheVariants as header

pub returns : goal.returns
returns c =
    IfOk-weaker c.new.result _ _ (λ made is.
    subst (λ r. IsOkAnd r (λ e. made ≡ header.Each c.args.is_final c.args.ty c.args.name e)) (sym c.in_ok-e.was) is) c.new.ensures
