use Rattle.std.proofs.Common.{sym, subst, ap, length, OnOk}
use Rattle.jav_tree.specs.declared.unit.Member.{Member}
use Rattle.jav_scope.specs.MemberLists.{IsAdded}
use Rattle.jav_scope.proofs.MembersListed.{adds-field, adds-method, adds-constructor}
use Rattle.jav_scope.proofs.member_entries.MemberEntries.add.Goals as goal

pub returns-in-Field : goal.returns-in-Field
returns-in-Field c =
    let added = c.add_field.ensures in
    subst (λ (m : Member). OnOk c.add_field.result (IsAdded c.args.self.now c.add_field.new.self c.args.place m)) (sym c.in-Field.is)
    (adds-field c.args.self.now c.add_field.new.self c.add_field.result c.args.place c.in-Field.field
    added.added added.methods added.constructors added.constructed)

pub returns-in-Method : goal.returns-in-Method
returns-in-Method c =
    let added = c.add_method.ensures in
    subst (λ (m : Member). OnOk c.add_method.result (IsAdded c.args.self.now c.add_method.new.self c.args.place m)) (sym c.in-Method.is)
    (adds-method c.args.self.now c.add_method.new.self c.add_method.result c.args.place c.in-Method.method (length c.items.result.now)
    (ap length c.items.ensures) added.fields added.added added.constructors added.constructed)

pub returns-in-Ctor : goal.returns-in-Ctor
returns-in-Ctor c =
    let added = c.add_constructor.ensures in
    subst (λ (m : Member). OnOk c.add_constructor.result (IsAdded c.args.self.now c.add_constructor.new.self c.args.place m))
    (sym c.in-Ctor.is)
    (adds-constructor c.args.self.now c.add_constructor.new.self c.add_constructor.result c.args.place c.in-Ctor.ctor
    (length c.items-in-Ctor.result.now) (ap length c.items-in-Ctor.ensures) added.fields added.methods added.added added.constructed)
