use Rattle.std.proofs.Common.{Option, subst}
use Rattle.std.proofs.lemmas.Result.{IfOk-weaker}
use Rattle.mol_resolve_expr.proofs.Outcomes.{over_none, over_read}
use Rattle.mol_resolve_expr.proofs.expr_reader.ExprReader.object.Goals as goal
use Rattle.mol_resolve_readings.specs.meant.Kept.{view_part, view_read, view_reading}
use Rattle.mol_resolve_readings.specs.declared.meant.read_type.ReadType.{ReadType as Kept}
use Rattle.mol_resolve_readings.specs.reads.Reads.{Reads}
use Rattle.mol_resolve_rules.specs.ReadTrees.{created}

pub returns-in-Some : goal.returns-in-Some
returns-in-Some g c =
    let reader = g.N.Names.reader c.args.self.now.names.now in
    IfOk-weaker c.created.result _ _ (λ value made read first ty_read.
    over_read read (λ read. created reader c.args.at c.args.arity read c.args.values read.type) (view_read c.in-Some.ty) (view_part value)
    first _ _ (subst (λ (ty : Option Kept). Reads read (view_reading ty) first c.args.faults.now) c.in-Some.is ty_read) made)
    c.created.ensures

pub returns-in-None : goal.returns-in-None
returns-in-None g c = λ read first ty_read.
    over_none read _ first _ (subst (λ (ty : Option Kept). Reads read (view_reading ty) first c.args.faults.now) c.in-None.is ty_read)
