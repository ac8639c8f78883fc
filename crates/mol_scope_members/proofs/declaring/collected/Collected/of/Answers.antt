use Rattle.std.proofs.Common.{map, ap}
use Rattle.mol_scope_members.proofs.declaring_lemmas.MembersAdded.{collects-all, collects-more}
use Rattle.mol_scope_members.proofs.declaring.collected.Collected.of.Goals as goal
use Rattle.mol_scope_members.specs.declaring.Owners.{row_of}

pub loop-id-init : goal.loop-id-init
loop-id-init c =
    let none = c.new-collected.ensures in
    record {
      fields = none.fields;
      methods = none.methods;
      constructors = none.constructors;
      constructed = none.constructed;
      declared = none.declared;
      field_owners = ap (map row_of) none.field_owners;
      method_owners = ap (map row_of) none.method_owners;
    }

pub loop-id-preserved : goal.loop-id-preserved
loop-id-preserved c =
    collects-more c.args.table.now c.ids-id-items.result.now c.loop-id.id-index c.id-item.result c.loop-id.collected c.add.new.self
    c.loop-id-test.true c.id-item.is c.loop-id.invariant c.in_ok-add.ensures

pub returns : goal.returns
returns c =
    let ids = c.ids-id-items in
    collects-all c.args.table.now ids.result.now c.loop-id.id-index c.loop-id.collected ids.ensures.ascending ids.ensures.known
    c.loop-id-test.false c.loop-id.invariant
