use Rattle.std.proofs.Common.{◌∙◌, ◌++◌, ◌∷◌, [], ap, append_assoc}
use Rattle.serde_json.specs.Written.{compact_text, has_float}
use Rattle.mol_report_conflicts.proofs.Values.{value-whole}
use Rattle.mol_report_conflicts.specs.Conflicts.{value_text}
use Rattle.mol_report_conflicts.proofs.pieces.push_value.Goals as goal

pub returns : goal.returns
returns c =
    let text = c.as_bytes.ensures.value
    ∙ c.in_ok-text.ensures.text (ap has_float c.in_ok-json.ensures ∙ value-whole c.args.value.now)
    ∙ ap compact_text c.in_ok-json.ensures in
    c.in_ok-extend_from_slice.ensures.items ∙ (λ k. c.in_ok-push.ensures.items k ++ text k)
    ∙ append_assoc c.args.out.now.items (32 ∷ []) (value_text c.args.value.now)
