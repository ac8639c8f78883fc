use Rattle.mol_base.specs.Order.{id_cmp}
use Rattle.mol_log_rules.specs.Living.{is_life_cell}
use Rattle.mol_log_writers.proofs.Noting.{noted-further, noted-one, noted-whole}
use Rattle.mol_log_writers.proofs.side.note_lives.Goals as goal

pub loop-at-preserved : goal.loop-at-preserved
loop-at-preserved c =
    noted-further id_cmp (is_life_cell c.args.left.now) c.args.cells.now c.loop-at.at-index c.at-item.result c.args.stamp.now _ _ _
    c.loop-at-test.true c.at-item.is c.loop-at.invariant
    (noted-one id_cmp (is_life_cell c.args.left.now) c.at-item.result c.args.stamp.now _ _ c.in_ok-note_life.ensures)

pub returns : goal.returns
returns c =
    noted-whole id_cmp (is_life_cell c.args.left.now) c.args.cells.now c.loop-at.at-index c.args.stamp.now _ _ c.loop-at-test.false
    c.loop-at.invariant
