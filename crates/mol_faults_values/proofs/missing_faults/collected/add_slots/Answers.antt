use Rattle.std.proofs.Common.{refl}
use Rattle.mol_faults_values.proofs.missing_faults.collected.add_slots.Goals as goal
use Rattle.mol_faults_values.specs.missing_faults.Gone.{gone_at, gone_in_slots}
use Rattle.mol_base.proofs.Added.{adds-whole}
use Rattle.mol_table_rules.specs.Program.{cell}

pub returns : goal.returns
returns c =
    adds-whole (gone_in_slots c.args.table.now c.args.tidied.now c.args.id.now)
    (λ slot. gone_at c.args.table.now c.args.tidied.now (cell c.args.id.now slot)) refl (λ x rest. refl) c.args.slots.now
    c.loop-slot.slot-index _ _ c.loop-slot-test.false c.loop-slot.invariant
