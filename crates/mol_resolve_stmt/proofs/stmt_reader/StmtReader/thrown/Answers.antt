use Rattle.mol_resolve_expr.proofs.Outcomes.{made_read}
use Rattle.mol_resolve_readings.specs.locals.Scoped.{locals_of}
use Rattle.mol_resolve_rules.specs.ReadTrees.{read_expr}
use Rattle.mol_resolve_stmt.proofs.TreesRead.{tree_read}
use Rattle.mol_resolve_stmt.proofs.stmt_reader.StmtReader.thrown.Goals as goal
use Rattle.mol_values_types.specs.declared.iblock.IStmtNode.TheVariants as nodes

pub returns : goal.returns
returns g c =
    let reader = g.N.Names.reader c.args.self.now.names.now in
    let locals = locals_of c.args.locals.now in
    made_read (λ e. nodes.Throw e) (read_expr reader locals c.args.e.now) _ _ _ _
    (tree_read reader locals c.args.e.now _ _ _ c.in_ok-value.ensures) c.thrown.ensures
