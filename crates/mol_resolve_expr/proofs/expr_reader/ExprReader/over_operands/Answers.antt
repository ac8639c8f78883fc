use Rattle.std.proofs.Common.{sym, subst}
use Rattle.std.proofs.lemmas.Result.{IfOk-weaker}
use Rattle.mol_resolve_expr.proofs.MadeOfParts.{item_read}
use Rattle.mol_resolve_expr.proofs.Outcomes.{made_read, both_read}
use Rattle.mol_resolve_expr.specs.Parts.{node_of, over_operands}
use Rattle.mol_resolve_expr.proofs.expr_reader.ExprReader.over_operands.Goals as goal
use Rattle.mol_resolve_readings.specs.locals.Scoped.{locals_of}
use Rattle.mol_resolve_readings.specs.meant.Kept.{view_part}
use Rattle.mol_resolve_readings.specs.meant.Made as spec
use Rattle.mol_resolve_readings.specs.reads.Reads.{Reads}
use Rattle.mol_resolve_rules.specs.Outcomes.{both}
use Rattle.mol_resolve_rules.specs.ReadTrees.{alone}

pub returns-in-Operator : goal.returns-in-Operator
returns-in-Operator g c =
    let reader = g.N.Names.reader c.args.self.now.names.now in
    let locals = locals_of c.args.self.now.locals.now in
    IfOk-weaker c.binary.result _ _ (λ value is left right before between one two.
    subst (λ kind. Reads (node_of reader locals (over_operands kind left right) c.args.at) (view_part value) before c.args.faults.now)
    (sym c.in-Operator.is)
    (made_read (spec.binary c.in-Operator.op.now) (both (alone reader locals left) (alone reader locals right)) _ (view_part value) before _
    (both_read (alone reader locals left) (alone reader locals right) _ _ before between _ one two) is)) c.binary.ensures

pub returns-in-Assignment : goal.returns-in-Assignment
returns-in-Assignment g c =
    let reader = g.N.Names.reader c.args.self.now.names.now in
    let locals = locals_of c.args.self.now.locals.now in
    IfOk-weaker c.assignment.result _ _ (λ value is left right before between one two.
    subst (λ kind. Reads (node_of reader locals (over_operands kind left right) c.args.at) (view_part value) before c.args.faults.now)
    (sym c.in-Assignment.is)
    (made_read (spec.assignment c.in-Assignment.op.now) (both (alone reader locals left) (alone reader locals right)) _ (view_part value) before _
    (both_read (alone reader locals left) (alone reader locals right) _ _ before between _ one two) is)) c.assignment.ensures

pub returns-in-Index : goal.returns-in-Index
returns-in-Index g c =
    let reader = g.N.Names.reader c.args.self.now.names.now in
    let locals = locals_of c.args.self.now.locals.now in
    IfOk-weaker c.item_at.result _ _ (λ value made index array before between one two.
    subst (λ kind. Reads (node_of reader locals (over_operands kind index array) c.args.at) (view_part value) before c.item_at.new.faults)
    (sym c.in-Index.is)
    (item_read reader locals index array c.args.at _ _ (view_part value) before between _ _ one two (made reader))) c.item_at.ensures
