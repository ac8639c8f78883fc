use Rattle.std.proofs.Common.{length, subst}
use Rattle.std.proofs.lemmas.Result.{IfOk-weaker}
use Rattle.mol_resolve_expr.proofs.Outcomes.{beside_read}
use Rattle.mol_resolve_expr.proofs.expr_reader.ExprReader.creation.Goals as goal
use Rattle.mol_resolve_readings.specs.locals.Scoped.{locals_of}
use Rattle.mol_resolve_readings.specs.meant.Kept.{view_part}
use Rattle.mol_resolve_readings.specs.reads.Reads.{Reads}
use Rattle.mol_resolve_rules.specs.Outcomes.{over}
use Rattle.mol_resolve_rules.specs.ReadTrees.{created, values_of}
use Rattle.mol_resolve_rules.specs.ReadTypes.{read_type}

pub returns : goal.returns
returns g c =
    let reader = g.N.Names.reader c.args.self.now.names.now in
    let locals = locals_of c.args.self.now.locals.now in
    let ty = read_type reader c.args.at c.args.ty.now in
    IfOk-weaker c.object.result _ _ (λ value made parts first many read.
    beside_read (values_of reader locals parts) (λ values. over ty (λ ty. created reader c.args.at (length parts) ty values ty.type))
    c.args.values (view_part value) first c.args.faults.now c.object.new.faults read
    (subst (λ arity. Reads (over ty (λ ty. created reader c.args.at arity ty c.args.values ty.type)) (view_part value) c.args.faults.now
    c.object.new.faults) many (made ty c.args.faults.now c.in_ok-ty.ensures))) c.object.ensures
