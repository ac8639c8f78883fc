use Rattle.std.proofs.Common.{◌≡◌, ◌∙◌, ap, [], Option, sym, subst}
use Rattle.std.specs.Prelude.{IsOkAnd}
use Rattle.jav_tree.specs.Blocks.{block_of}
use Rattle.jav_tree.specs.declared.stmt.Block.{Block}
use Rattle.jav_tree.specs.declared.unit.Member.TheVariants as members
use Rattle.jav_tree.specs.declared.unit.Ctor.{Ctor}
use Rattle.mol_spell.proofs.units.methods.constructor_of.Goals as goal
use Rattle.mol_spell.specs.units.MemberTrees.{constructor_of}
use Rattle.std.specs.Option.{option_map_or}

pub returns : goal.returns
returns c =
    subst (λ r. IsOkAnd r (λ (made : Option Block). members.Ctor c.constructor.result
    ≡ members.Ctor (constructor_of c.args.head c.args.params (option_map_or (λ block. block) made (block_of [] [])))))
    (sym c.in_ok-block.was) (ap (λ (made : Ctor). members.Ctor made)
    (c.constructor.ensures ∙ ap (constructor_of c.args.head c.args.params) c.body_or_empty.ensures))
