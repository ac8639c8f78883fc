use Rattle.std.proofs.Common.{◌∙◌, ap}
use Rattle.std.proofs.lemmas.Result.{IfOk-weaker}
use Rattle.mol_spell_rules.specs.SpelledStatements.{spelled_body}
use Rattle.mol_spell_rules.specs.Writers.{Writer}
use Rattle.mol_spell.proofs.units.unit_writer.UnitWriter.body_at.Goals as goal

pub returns : goal.returns
returns g c =
    IfOk-weaker c.body_tree.result _ _ (λ tree is slot.
    is ∙ ap (λ (writer : Writer). (spelled_body writer c.args.body.now).tree) (c.in_ok-names.ensures slot)) c.body_tree.ensures
