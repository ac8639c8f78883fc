use Rattle.mol_resolve_readings.specs.locals.Scoped.{locals_of}
use Rattle.mol_resolve_rules.specs.ReadStatements.{read_let}
use Rattle.mol_resolve_stmt.proofs.InTurn.{made_on}
use Rattle.mol_resolve_stmt.proofs.stmt_reader.StmtReader.declared.Goals as goal
use Rattle.mol_values_types.specs.declared.iblock.IStmtNode.TheVariants as nodes

pub returns : goal.returns
returns g c =
    let reader = g.N.Names.reader c.args.self.now.names.now in
    let locals = locals_of c.args.locals.now in
    made_on (λ declared. nodes.Let declared) (read_let reader c.args.at c.args.declared.now locals) _ c.let_statement.result
    locals _ _ _ c.in_ok-read.ensures c.let_statement.ensures
