use Rattle.jav_print.proofs.Pages.{bracketed}
use Rattle.jav_print.proofs.page.Page.brackets.Goals as goal

pub loop-pair-preserved : goal.loop-pair-preserved
loop-pair-preserved c = bracketed c.loop-pair._pair c.args.self.now c.loop-pair.self c.put.new.self c.loop-pair.invariant c.in_ok-put.ensures
