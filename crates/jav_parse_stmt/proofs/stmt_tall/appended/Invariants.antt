use Rattle.std.proofs.Common.{◌≡◌, ◌++◌}
use Rattle.jav_parse_stmt.proofs.stmt_tall.appended.Given as goal

abbrev pub invariant-loop-text : goal.invariant-loop-text
invariant-loop-text l = l.all ≡ l.fn.front ++ l.yielded
