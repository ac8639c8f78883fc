use Rattle.std.proofs.Common.{◌≡◌, ◌++◌}
use Rattle.jav_tree.specs.Lines.{indent}
use Rattle.jav_print.proofs.page.Page.indent.Given as goal

abbrev pub invariant-loop-level : goal.invariant-loop-level
invariant-loop-level l = l.self ≡ l.fn.self ++ indent l._level
