use Rattle.mol_scope_classes.proofs.class_members_lemmas.Grouped.{all-members, further, none-so-far}
use Rattle.mol_scope_classes.proofs.class_members.grouping.grouped.Goals as goal

pub loop-id-init : goal.loop-id-init
loop-id-init c = rw c.new-groups.ensures.empty (none-so-far c.args.table.now)

pub loop-id-preserved : goal.loop-id-preserved
loop-id-preserved c =
    further c.args.table.now c.ids-id-items.result.now c.loop-id.id-index c.id-item.result c.loop-id.groups.entries _ _
    c.loop-id-test.true c.id-item.is c.loop-id.invariant c.owned_member.ensures c.in_ok-add_owned.ensures

pub returns : goal.returns
returns c =
    let ids = c.ids-id-items in
    all-members c.args.table.now ids.result.now c.loop-id.id-index c.loop-id.groups.entries ids.ensures.ascending ids.ensures.known
    c.loop-id-test.false c.loop-id.invariant
