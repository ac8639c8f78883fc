use Rattle.std.proofs.Common.{◌∙◌, refl, sym, ap}
use Rattle.mol_faults_values.proofs.missing_faults.collected.gone_in_all.Goals as goal
use Rattle.mol_faults_values.specs.missing_faults.Gone.{gone_in_all, gone_in_slots, gone_of, referring_slots}
use Rattle.mol_base.proofs.Added.{adds, adds-more, adds-whole}

pub loop-id-preserved : goal.loop-id-preserved
loop-id-preserved c =
    adds-more (gone_in_all c.args.table.now c.args.tidied.now) (gone_of c.args.table.now c.args.tidied.now) refl (λ x rest. refl)
    c.args.ids.now c.loop-id.id-index c.id-item.result _ _ _ c.loop-id-test.true c.id-item.is c.loop-id.invariant
    (adds c.loop-id.gone.items _ _ _
    (ap (gone_in_slots c.args.table.now c.args.tidied.now c.id-item.result)
    (ap referring_slots (sym c.living_entity.ensures) ∙ sym c.referring_slots-slots.ensures)) c.in_ok-add_slots.ensures)

pub returns : goal.returns
returns c =
    adds-whole (gone_in_all c.args.table.now c.args.tidied.now) (gone_of c.args.table.now c.args.tidied.now) refl (λ x rest. refl)
    c.args.ids.now c.loop-id.id-index _ _ c.loop-id-test.false c.loop-id.invariant
