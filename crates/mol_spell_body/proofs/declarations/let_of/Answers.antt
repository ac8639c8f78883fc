use Rattle.std.proofs.Common.{◌≡◌, refl, sym, subst}
use Rattle.std.specs.Prelude.{IsOkAnd}
use Rattle.mol_spell_body.proofs.declarations.let_of.Goals as goal
use Rattle.mol_spell_body.specs.Made as made

pub returns : goal.returns
returns c =
    subst (λ r. IsOkAnd r (λ names. made.let_of c.args.is_final c.args.ty c.in_ok-names.names
    ≡ made.let_of c.args.is_final c.args.ty names))
    (sym c.in_ok-names.was) refl
