use Rattle.std.proofs.Common.{◌≡◌, sym, subst}
use Rattle.std.specs.Prelude.{IsOkAnd}
use Rattle.jav_tree.specs.declared.unit.ClassDecl.{ClassDecl}
use Rattle.mol_spell.proofs.units.unit.unit_of.Goals as goal
use Rattle.mol_spell.specs.units.Headings.{unit_of}

pub returns : goal.returns
returns c =
    subst (λ r. IsOkAnd r (λ (made : ClassDecl). c.with_class.result ≡ unit_of c.args.head made))
    (sym c.in_ok-class.was) c.with_class.ensures
