use Rattle.std.proofs.lemmas.Result.{IfOk-weaker}
use Rattle.mol_resolve_expr.proofs.Outcomes.{both_exchanged, made_read}
use Rattle.mol_resolve_expr.proofs.expr_reader.ExprReader.array_of.Goals as goal
use Rattle.mol_resolve_readings.specs.locals.Scoped.{locals_of}
use Rattle.mol_resolve_readings.specs.meant.Kept.{view_part}
use Rattle.mol_resolve_readings.specs.meant.Made as spec
use Rattle.mol_resolve_rules.specs.Outcomes.{both}
use Rattle.mol_resolve_rules.specs.ReadTrees.{values_of}
use Rattle.mol_resolve_rules.specs.ReadTypes.{read_type}

pub returns : goal.returns
returns g c =
    let reader = g.N.Names.reader c.args.self.now.names.now in
    let locals = locals_of c.args.self.now.locals.now in
    IfOk-weaker c.array_of.result _ _ (λ value is parts first read.
    made_read spec.array_of (both (read_type reader c.args.at c.args.ty.now) (values_of reader locals parts)) _ (view_part value) first _
    (both_exchanged (read_type reader c.args.at c.args.ty.now) (values_of reader locals parts) _ _ first _ _ read c.in_ok-ty.ensures) is)
    c.array_of.ensures
