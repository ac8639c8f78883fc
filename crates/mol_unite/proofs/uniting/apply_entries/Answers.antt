use Rattle.std.proofs.Common.{refl}
use Rattle.mol_unite.proofs.Entries.{all-applied, entry-applied, entry-applies}
use Rattle.mol_unite.proofs.uniting.apply_entries.Goals as goal

pub loop-entry-init : goal.loop-entry-init
loop-entry-init c = record { applies = c.requires; leaves = refl }

pub apply_fitting-requires : goal.apply_fitting-requires
apply_fitting-requires c =
    entry-applies c.args.table.now c.args.entries.now c.loop-entry.entry-index c.entry-item.result c.loop-entry.table c.loop-entry-test.true
    c.entry-item.is c.loop-entry.invariant

pub loop-entry-preserved : goal.loop-entry-preserved
loop-entry-preserved c =
    entry-applied c.args.table.now c.args.entries.now c.loop-entry.entry-index c.entry-item.result c.loop-entry.table _
    c.loop-entry-test.true c.entry-item.is c.loop-entry.invariant c.in_ok-apply_fitting.ensures.ok

pub returns : goal.returns
returns c =
    all-applied c.args.table.now c.args.entries.now c.loop-entry.entry-index c.loop-entry.table c.loop-entry-test.false
    c.loop-entry.invariant
