use Rattle.std.proofs.lemmas.Result.{IfOk-weaker}
use Rattle.mol_resolve_expr.proofs.Outcomes.{made_read, both_exchanged}
use Rattle.mol_resolve_expr.proofs.expr_reader.ExprReader.cast.Goals as goal
use Rattle.mol_resolve_readings.specs.locals.Scoped.{locals_of}
use Rattle.mol_resolve_readings.specs.meant.Kept.{view_part}
use Rattle.mol_resolve_readings.specs.meant.Made as spec
use Rattle.mol_resolve_rules.specs.Outcomes.{both}
use Rattle.mol_resolve_rules.specs.ReadTrees.{alone}
use Rattle.mol_resolve_rules.specs.ReadTypes.{read_type}

pub returns : goal.returns
returns g c =
    let reader = g.N.Names.reader c.args.self.now.names.now in
    let locals = locals_of c.args.self.now.locals.now in
    IfOk-weaker c.cast.result _ _ (λ value is part first read.
    made_read spec.cast (both (read_type reader c.args.at c.args.ty.now) (alone reader locals part)) _ (view_part value) first _
    (both_exchanged (read_type reader c.args.at c.args.ty.now) (alone reader locals part) _ _ first _ _ read c.in_ok-ty.ensures) is)
    c.cast.ensures
