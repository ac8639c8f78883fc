use Rattle.std.proofs.Common.{◌≡◌, ap, Option, sym, subst}
use Rattle.std.specs.Prelude.{IsOkAnd}
use Rattle.jav_tree.specs.declared.stmt.Block.{Block}
use Rattle.jav_tree.specs.declared.unit.Member.TheVariants as members
use Rattle.jav_tree.specs.declared.unit.Method.{Method}
use Rattle.mol_spell.proofs.units.methods.method_of.Goals as goal
use Rattle.mol_spell.specs.units.MemberTrees.{method_of}

pub returns : goal.returns
returns c =
    subst (λ r. IsOkAnd r (λ (made : Option Block). members.Method c.method.result
    ≡ members.Method (method_of c.args.head c.args.is_static c.args.signature made)))
    (sym c.in_ok-block.was) (ap (λ (made : Method). members.Method made) c.method.ensures)
