use Rattle.mol_resolve_readings.specs.locals.Scoped.{locals_of}
use Rattle.mol_resolve_stmt.proofs.TreesRead.{none_read, some_read}
use Rattle.mol_resolve_stmt.proofs.stmt_reader.StmtReader.maybe.Goals as goal

pub returns-in-None : goal.returns-in-None
returns-in-None g c =
    let reader = g.N.Names.reader c.args.self.now.names.now in
    let locals = locals_of c.args.locals.now in
    none_read reader locals c.args.e.now c.args.faults.now c.in-None.is

pub returns-in_ok-expr-in-Some : goal.returns-in_ok-expr-in-Some
returns-in_ok-expr-in-Some g c =
    let reader = g.N.Names.reader c.args.self.now.names.now in
    let locals = locals_of c.args.locals.now in
    some_read reader locals c.args.e.now _ _ _ _ _ c.in-Some.is c.in_ok-expr-in-Some.ensures c.present.ensures
