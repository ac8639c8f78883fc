use Rattle.std.proofs.Common.{arith, length, take, drop, ◌-◌}
use Rattle.std.proofs.lemmas.List.{take_rest}
use Rattle.jav_print.proofs.Pages.{members_all}
use Rattle.jav_print.proofs.page.Page.members.Goals as goal

pub returns-after-loop-each : goal.returns-after-loop-each
returns-after-loop-each c = members_all c.args.class.now c.args.members.now (take (length c.args.members.now - 1) (drop 1 c.args.members.now)) c.first-item.result c.loop-each.each-index c.args.self.now c.class_member.new.self c.loop-each.self
    (omega arith) (take_rest c.args.members.now 1) c.first-item.is c.in_ok-class_member.ensures (omega arith) c.loop-each.invariant
