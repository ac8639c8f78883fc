use Rattle.std.proofs.Common.{◌∙◌, ap}
use Rattle.std.proofs.lemmas.Result.{IfOk-weaker}
use Rattle.mol_spell_rules.specs.Writers.{Writer}
use Rattle.mol_spell.proofs.units.unit_writer.UnitWriter.type_at.Goals as goal
use Rattle.mol_spell.specs.units.MemberTrees.{type_tree}

pub returns : goal.returns
returns g c =
    IfOk-weaker c.type_tree.result _ _ (λ tree is slot.
    is ∙ ap (λ (writer : Writer). type_tree writer c.args.ty.now) (c.in_ok-names.ensures slot)) c.type_tree.ensures
