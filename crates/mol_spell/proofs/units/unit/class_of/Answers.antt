use Rattle.std.proofs.Common.{◌≡◌, List, sym, subst}
use Rattle.std.specs.Prelude.{IsOkAnd}
use Rattle.jav_tree.specs.declared.unit.Member.{Member}
use Rattle.mol_spell.proofs.units.unit.class_of.Goals as goal
use Rattle.mol_spell.specs.units.Headings.{class_of}

pub returns : goal.returns
returns c =
    subst (λ r. IsOkAnd r (λ (made : List Member). c.with_members.result ≡ class_of c.args.head c.args.parent made))
    (sym c.in_ok-members.was) c.with_members.ensures
