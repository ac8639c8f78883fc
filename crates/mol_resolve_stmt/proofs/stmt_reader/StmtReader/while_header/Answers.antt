use Rattle.std.proofs.lemmas.Result.{IfOk-weaker}
use Rattle.mol_resolve_expr.proofs.Outcomes.{made_read}
use Rattle.mol_resolve_readings.specs.locals.Scoped.{locals_of}
use Rattle.mol_resolve_rules.specs.ReadTrees.{read_expr}
use Rattle.mol_resolve_stmt.proofs.TreesRead.{tree_read}
use Rattle.mol_resolve_stmt.proofs.stmt_reader.StmtReader.while_header.Goals as goal
use Rattle.mol_resolve_stmt.specs.Loops.{while_part}

pub returns : goal.returns
returns g c =
    let reader = g.N.Names.reader c.args.self.now.names.now in
    let locals = locals_of c.args.locals.now in
    let test = c.args.test.now in
    IfOk-weaker c.while_of.result _ _ (λ header is. made_read while_part (read_expr reader locals test) _ header _ _
    (tree_read reader locals test _ _ _ c.in_ok-test.ensures) is) c.while_of.ensures
