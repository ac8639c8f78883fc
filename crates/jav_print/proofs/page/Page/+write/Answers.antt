use Rattle.std.proofs.Common.{arith, length, take, drop, ◌-◌}
use Rattle.std.proofs.lemmas.List.{take_rest}
use Rattle.jav_print.proofs.Pages.{sizes_all, trees_all}
use Rattle.jav_print.proofs.page.Page.+write.Goals as goal

pub sizes-returns : goal.sizes-returns
sizes-returns t c = sizes_all c.args.sizes.now c.loop-size.size-index c.args.self.now c.loop-size.self (omega arith) c.loop-size.invariant

pub trees-returns-after-loop-item : goal.trees-returns-after-loop-item
trees-returns-after-loop-item t c = trees_all c.args.items.now (take (length c.args.items.now - 1) (drop 1 c.args.items.now)) c.first-item.result c.loop-item.item-index c.args.self.now c.tree.new.self c.loop-item.self
    (omega arith) (take_rest c.args.items.now 1) c.first-item.is c.in_ok-tree.ensures (omega arith) c.loop-item.invariant
