use Rattle.std.proofs.Common.{arith, length, take, drop, ◌-◌}
use Rattle.std.proofs.lemmas.List.{take_rest}
use Rattle.jav_tree.specs.Layout.{param_text}
use Rattle.jav_print.proofs.Pages.{listed_all}
use Rattle.jav_print.proofs.page.Page.listed_params.Goals as goal

pub returns-after-loop-each : goal.returns-after-loop-each
returns-after-loop-each c = listed_all param_text c.args.params.now (take (length c.args.params.now - 1) (drop 1 c.args.params.now)) c.first-item.result c.loop-each.each-index c.args.self.now c.param.new.self c.loop-each.self
    (omega arith) (take_rest c.args.params.now 1) c.first-item.is c.in_ok-param.ensures (omega arith) c.loop-each.invariant
