use Rattle.std.proofs.lemmas.Result.{IfOk-weaker}
use Rattle.mol_resolve_readings.specs.locals.Scoped.{locals_of}
use Rattle.mol_resolve_stmt.proofs.TreesRead.{all_read}
use Rattle.mol_resolve_stmt.proofs.stmt_reader.StmtReader.exprs.Goals as goal

pub returns : goal.returns
returns g c =
    IfOk-weaker c.all.result _ _ (λ values read. all_read (g.N.Names.reader c.args.self.now.names.now) (locals_of c.args.locals.now)
    c.args.items.now values _ _ read) c.all.ensures
