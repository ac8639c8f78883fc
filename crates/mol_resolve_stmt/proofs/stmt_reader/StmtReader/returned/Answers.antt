use Rattle.mol_resolve_expr.proofs.Outcomes.{made_read}
use Rattle.mol_resolve_readings.specs.locals.Scoped.{locals_of}
use Rattle.mol_resolve_rules.specs.ReadStatements.{read_maybe}
use Rattle.mol_resolve_stmt.proofs.stmt_reader.StmtReader.returned.Goals as goal
use Rattle.mol_values_types.specs.declared.iblock.IStmtNode.TheVariants as nodes

pub returns : goal.returns
returns g c =
    let reader = g.N.Names.reader c.args.self.now.names.now in
    let locals = locals_of c.args.locals.now in
    made_read (λ e. nodes.Return e) (read_maybe reader locals c.args.e.now) _ _ _ _ c.in_ok-value.ensures c.returned.ensures
