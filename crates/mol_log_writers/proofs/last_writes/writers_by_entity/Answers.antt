use Rattle.std.proofs.Common.{◌∙◌}
use Rattle.mol_log_writers.specs.LastWriters.{is_in_entity}
use Rattle.mol_base.specs.Order.{id_cmp-total}
use Rattle.mol_log_writers.proofs.Noting.{index-further, index-none, index-whole}
use Rattle.mol_log_writers.proofs.last_writes.writers_by_entity.Goals as goal
use Rattle.mol_base.specs.Order.{id_cmp}

pub loop-entry-init : goal.loop-entry-init
loop-entry-init c = index-none id_cmp is_in_entity id_cmp-total c.args.entries.now _ c.new-index.ensures.empty

pub loop-entry-preserved : goal.loop-entry-preserved
loop-entry-preserved c =
    index-further id_cmp is_in_entity c.args.entries.now c.loop-entry.entry-index c.entry-item.result _ _ _ c.loop-entry-test.true c.entry-item.is
    (c.as_slice.ensures.value ∙ c.in_ok-cells.ensures) c.loop-entry.invariant c.in_ok-note_entities.ensures

pub returns : goal.returns
returns c = index-whole id_cmp is_in_entity c.args.entries.now c.loop-entry.entry-index _ c.loop-entry-test.false c.loop-entry.invariant
