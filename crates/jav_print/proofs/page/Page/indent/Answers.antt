use Rattle.jav_print.proofs.Pages.{indented}
use Rattle.jav_print.proofs.page.Page.indent.Goals as goal

pub loop-level-preserved : goal.loop-level-preserved
loop-level-preserved c = indented c.loop-level._level c.args.self.now c.loop-level.self c.put.new.self c.loop-level.invariant c.in_ok-put.ensures
