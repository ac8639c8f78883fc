use Rattle.std.proofs.Common.{◌≡◌, sym, subst}
use Rattle.std.specs.Prelude.{IfOk}
use Rattle.jav_tree.specs.declared.unit.Member.{Member}
use Rattle.mol_spell.proofs.units.unit_writer.UnitWriter.member_of.Goals as goal
use Rattle.mol_spell.specs.units.MemberTrees.{member_of_kind}
use Rattle.mol_values_types.specs.declared.kind.MethodKind.{MethodKind}

pub returns-in-Instance : goal.returns-in-Instance
returns-in-Instance g c =
    let unit = c.args.self.now in
    subst (λ (kind : MethodKind). IfOk c.method.result (λ (member : Member). member
    ≡ member_of_kind unit.index.now unit.class c.args.id.now c.args.method.now kind)) (sym c.in-Instance.is) c.method.ensures

pub returns-in-Static : goal.returns-in-Static
returns-in-Static g c =
    let unit = c.args.self.now in
    subst (λ (kind : MethodKind). IfOk c.method-in-Static.result (λ (member : Member). member
    ≡ member_of_kind unit.index.now unit.class c.args.id.now c.args.method.now kind)) (sym c.in-Static.is) c.method-in-Static.ensures

pub returns-in-Constructor : goal.returns-in-Constructor
returns-in-Constructor g c =
    let unit = c.args.self.now in
    subst (λ (kind : MethodKind). IfOk c.constructor.result (λ (member : Member). member
    ≡ member_of_kind unit.index.now unit.class c.args.id.now c.args.method.now kind)) (sym c.in-Constructor.is) c.constructor.ensures
