use Rattle.mol_resolve_readings.specs.locals.Scoped.{locals_of}
use Rattle.mol_resolve_rules.specs.Readers.{param_names}
use Rattle.mol_resolve_stmt.proofs.Taken.{of_local, of_param}
use Rattle.mol_resolve_stmt.proofs.stmt_reader.StmtReader.is_taken.Goals as goal

pub returns-then-is_some : goal.returns-then-is_some
returns-then-is_some g c =
    of_local (locals_of c.args.locals.now) (param_names (g.N.Names.reader c.args.self.now.names.now)) c.args.name.now c.find.result
    c.is_some.result c.find.ensures.is c.is_some.ensures c.if-is_some.ensures

pub returns-else-is_some : goal.returns-else-is_some
returns-else-is_some g c =
    of_param (locals_of c.args.locals.now) (param_names (g.N.Names.reader c.args.self.now.names.now)) c.args.name.now c.find.result
    c.is_param.result c.find.ensures.is c.if-is_some.ensures c.is_param.ensures
