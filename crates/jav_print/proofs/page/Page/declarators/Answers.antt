use Rattle.std.proofs.Common.{arith, length, take, drop, ◌-◌}
use Rattle.std.proofs.lemmas.List.{take_rest}
use Rattle.jav_tree.specs.StatementText.{declarator_text}
use Rattle.jav_print.proofs.Pages.{listed_all}
use Rattle.jav_print.proofs.page.Page.declarators.Goals as goal

pub returns-after-loop-each : goal.returns-after-loop-each
returns-after-loop-each c = listed_all declarator_text c.args.names.now (take (length c.args.names.now - 1) (drop 1 c.args.names.now)) c.first-item.result c.loop-each.each-index c.args.self.now c.valued.new.self c.loop-each.self
    (omega arith) (take_rest c.args.names.now 1) c.first-item.is c.in_ok-valued.ensures (omega arith) c.loop-each.invariant
