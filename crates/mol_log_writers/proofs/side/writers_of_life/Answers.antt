use Rattle.std.proofs.Common.{◌∙◌}
use Rattle.mol_base.specs.Order.{id_cmp, id_cmp-total}
use Rattle.mol_log_rules.specs.Living.{is_life_cell}
use Rattle.mol_log_writers.proofs.Noting.{index-further, index-none, index-whole}
use Rattle.mol_log_writers.proofs.side.writers_of_life.Goals as goal

pub loop-entry-init : goal.loop-entry-init
loop-entry-init c =
    index-none id_cmp (is_life_cell c.args.left.now) id_cmp-total c.args.entries.now _ c.new-index.ensures.empty

pub loop-entry-preserved : goal.loop-entry-preserved
loop-entry-preserved c =
    index-further id_cmp (is_life_cell c.args.left.now) c.args.entries.now c.loop-entry.entry-index c.entry-item.result _ _ _
    c.loop-entry-test.true c.entry-item.is (c.as_slice.ensures.value ∙ c.in_ok-cells.ensures) c.loop-entry.invariant
    c.in_ok-note_lives.ensures

pub returns : goal.returns
returns c =
    index-whole id_cmp (is_life_cell c.args.left.now) c.args.entries.now c.loop-entry.entry-index _ c.loop-entry-test.false
    c.loop-entry.invariant
