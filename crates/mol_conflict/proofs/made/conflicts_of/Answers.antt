use Rattle.std.proofs.Common.{[], subst, sym}
use Rattle.std.specs.List.{AllZip}
use Rattle.mol_conflict.proofs.Making.{zip-further, zip-whole}
use Rattle.mol_conflict.proofs.made.conflicts_of.Goals as goal
use Rattle.mol_conflict.specs.Made.{IsMade}
use Rattle.mol_log_rules.specs.Logs.{history}

pub loop-pair-init : goal.loop-pair-init
loop-pair-init c =
    let one = c.args.one.now in
    let other = c.args.other.now in
    let made = IsMade one.left.now other.left.now (history one.writes.now) (history other.writes.now) in
    subst (AllZip made []) (sym c.new-conflicts.ensures) (tt {0})

pub loop-pair-preserved : goal.loop-pair-preserved
loop-pair-preserved c =
    let one = c.args.one.now in
    let other = c.args.other.now in
    let made = IsMade one.left.now other.left.now (history one.writes.now) (history other.writes.now) in
    zip-further made
    c.args.pairs.now c.loop-pair.pair-index c.pair-item.result c.loop-pair.conflicts _ c.in_ok-conflict.conflict c.loop-pair-test.true
    c.pair-item.is c.loop-pair.invariant c.in_ok-conflict.ensures c.in_ok-add.ensures.ok

pub conflict_of-requires : goal.conflict_of-requires
conflict_of-requires c = c.requires c.pair-item.result (c.loop-pair.pair-index, c.loop-pair-test.true, sym c.pair-item.is)

pub returns : goal.returns
returns c =
    let one = c.args.one.now in
    let other = c.args.other.now in
    let made = IsMade one.left.now other.left.now (history one.writes.now) (history other.writes.now) in
    zip-whole made
    c.args.pairs.now c.loop-pair.pair-index c.loop-pair.conflicts c.loop-pair-test.false c.loop-pair.invariant
