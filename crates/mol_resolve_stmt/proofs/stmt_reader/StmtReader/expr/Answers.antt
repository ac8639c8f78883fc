use Rattle.mol_resolve_stmt.proofs.stmt_reader.StmtReader.expr.Goals as goal

pub returns : goal.returns
returns g c = c.alone.ensures
