use Rattle.std.proofs.Common.{◌≡◌, ◌++◌, take}
use Rattle.std.specs.List.{flat_map}
use Rattle.jav_print.proofs.Pages.{stmt_lines}
use Rattle.jav_print.proofs.page.Page.+write_stmt.Given as goal

abbrev pub invariant-stmts-loop-stmt : goal.invariant-stmts-loop-stmt
invariant-stmts-loop-stmt l = l.self ≡ l.initial.self ++ flat_map (stmt_lines l.depth) (take l.stmt-index l.stmts)
