use Rattle.std.proofs.Common.{◌≡◌, ◌++◌}
use Rattle.jav_tree.specs.ExpressionText.{brackets_text}
use Rattle.jav_print.proofs.page.Page.brackets.Given as goal

abbrev pub invariant-loop-pair : goal.invariant-loop-pair
invariant-loop-pair l = l.self ≡ l.fn.self ++ brackets_text l._pair
