use Rattle.std.proofs.Common.{sym, subst}
use Rattle.std.proofs.lemmas.Result.{IfOk-weaker}
use Rattle.mol_resolve_expr.proofs.Outcomes.{made_read}
use Rattle.mol_resolve_expr.specs.Parts.{node_of, over_operand}
use Rattle.mol_resolve_expr.proofs.expr_reader.ExprReader.over_operand.Goals as goal
use Rattle.mol_resolve_readings.specs.locals.Scoped.{locals_of}
use Rattle.mol_resolve_readings.specs.meant.Kept.{view_part}
use Rattle.mol_resolve_readings.specs.meant.Made as spec
use Rattle.mol_resolve_readings.specs.reads.Reads.{Reads}
use Rattle.mol_resolve_rules.specs.ReadTrees.{alone}

pub returns-in-Prefix : goal.returns-in-Prefix
returns-in-Prefix g c =
    let reader = g.N.Names.reader c.args.self.now.names.now in
    let locals = locals_of c.args.self.now.locals.now in
    IfOk-weaker c.unary.result _ _ (λ value is part first read.
    subst (λ kind. Reads (node_of reader locals (over_operand kind part) c.args.at) (view_part value) first c.args.faults.now)
    (sym c.in-Prefix.is)
    (made_read (spec.unary c.in-Prefix.op.now) (alone reader locals part) (view_part c.args.operand) (view_part value) first _ read is))
    c.unary.ensures

pub returns-in-Postfix : goal.returns-in-Postfix
returns-in-Postfix g c =
    let reader = g.N.Names.reader c.args.self.now.names.now in
    let locals = locals_of c.args.self.now.locals.now in
    IfOk-weaker c.post.result _ _ (λ value is part first read.
    subst (λ kind. Reads (node_of reader locals (over_operand kind part) c.args.at) (view_part value) first c.args.faults.now)
    (sym c.in-Postfix.is)
    (made_read (spec.post c.in-Postfix.op.now) (alone reader locals part) (view_part c.args.operand) (view_part value) first _ read is))
    c.post.ensures

pub returns-in-Cast : goal.returns-in-Cast
returns-in-Cast g c =
    let reader = g.N.Names.reader c.args.self.now.names.now in
    let locals = locals_of c.args.self.now.locals.now in
    IfOk-weaker c.cast.result _ _ (λ value made part first read.
    subst (λ kind. Reads (node_of reader locals (over_operand kind part) c.args.at) (view_part value) first c.cast.new.faults)
    (sym c.in-Cast.is) (made part first read)) c.cast.ensures

pub returns-in-InstanceOf : goal.returns-in-InstanceOf
returns-in-InstanceOf g c =
    let reader = g.N.Names.reader c.args.self.now.names.now in
    let locals = locals_of c.args.self.now.locals.now in
    IfOk-weaker c.instance_of.result _ _ (λ value made part first read.
    subst (λ kind. Reads (node_of reader locals (over_operand kind part) c.args.at) (view_part value) first c.instance_of.new.faults)
    (sym c.in-InstanceOf.is) (made part first read)) c.instance_of.ensures
