use Rattle.std.proofs.Common.{arith}
use Rattle.jav_print.proofs.Pages.{stmts_all}
use Rattle.jav_print.proofs.page.Page.+write_stmt.Goals as goal

pub stmts-returns : goal.stmts-returns
stmts-returns t c = stmts_all c.args.depth c.args.stmts.now c.loop-stmt.stmt-index c.args.self.now c.loop-stmt.self (omega arith) c.loop-stmt.invariant
