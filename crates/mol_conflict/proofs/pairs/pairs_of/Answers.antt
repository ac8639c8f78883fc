use Rattle.mol_log_rules.specs.Logs.{history}
use Rattle.mol_conflict.proofs.Members.{are-pairs, rows-found}
use Rattle.mol_conflict.proofs.Rows.{row-same}
use Rattle.mol_conflict.proofs.pairs.pairs_of.Goals as goal

pub in_order-requires : goal.in_order-requires
in_order-requires c = row-same

pub returns : goal.returns
returns c =
    let base = c.args.base.now in
    let one = history c.args.one.now.writes.now in
    let other = history c.args.other.now.writes.now in
    are-pairs base one other c.cells-ones.result.now c.cells-others.result.now c.cells-ones.ensures c.cells-others.ensures
    c.add_gone-2.new.found.items c.in_order.result.items
    (rows-found base one other c.cells-ones.result.now c.cells-others.result.now c.cells-ones.ensures c.cells-others.ensures
    c.args.one.now.left.now c.args.other.now.left.now c.requires.one c.requires.other _ _ _ _ c.new-found.ensures.items
    c.in_ok-add_twice.ensures c.in_ok-add_gone.ensures c.in_ok-add_gone-2.ensures)
    c.in_order.ensures.ascending c.in_order.ensures.same
