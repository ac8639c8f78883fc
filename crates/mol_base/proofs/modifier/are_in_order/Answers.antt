use Rattle.std.proofs.Common.{sym, ◌∙◌}
use Rattle.std.specs.Cmp.Lexicographic.{pointwise_decides, bytes_decides}
use Rattle.mol_base.specs.Modifiers.{in_order}
use Rattle.mol_base.proofs.modifier.are_in_order.Goals as goal

pub returns : goal.returns
returns c =
    let decides = pointwise_decides bytes_decides (in_order c.args.words.now) c.args.words.now in
    (λ yes. decides.0 (sym c.is_selection.ensures ∙ yes), λ ordered. c.is_selection.ensures ∙ decides.1 ordered)
