use Rattle.std.proofs.Common.{length}
use Rattle.std.proofs.lemmas.Result.{IfOk-weaker}
use Rattle.jav_names.specs.LookUps.{super_constructor}
use Rattle.mol_resolve_expr.proofs.Outcomes.{beside_read}
use Rattle.mol_resolve_readings.specs.locals.Scoped.{locals_of}
use Rattle.mol_resolve_rules.specs.ReadStatements.{read_exprs, super_if}
use Rattle.mol_resolve_stmt.proofs.stmt_reader.StmtReader.super_init.Goals as goal

pub returns : goal.returns
returns g c =
    let reader = g.N.Names.reader c.args.self.now.names.now in
    let locals = locals_of c.args.locals.now in
    let args = c.args.args.now in
    IfOk-weaker c.super_init.result _ _ (λ node read.
    beside_read (read_exprs reader locals args)
    (λ values. super_if reader reader.in_constructor c.args.at values (super_constructor reader.view reader.class (length args)))
    _ node _ _ _ c.in_ok-values.ensures read) c.super_init.ensures
