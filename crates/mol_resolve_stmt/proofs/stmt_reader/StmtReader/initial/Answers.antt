use Rattle.std.proofs.Common.{IfOk, subst}
use Rattle.mol_resolve_readings.specs.reads.Reads.{Reads}
use Rattle.mol_resolve_rules.specs.ReadStatements.{read_maybe}
use Rattle.mol_resolve_stmt.proofs.stmt_reader.StmtReader.initial.Goals as goal

pub returns : goal.returns
returns g c =
    let reader = g.N.Names.reader c.args.self.now.names.now in
    subst (λ locals. IfOk c.maybe.result (λ value.
    Reads (read_maybe reader locals c.args.init.now) value c.args.faults.now c.maybe.new.faults)) c.new-locals.ensures c.maybe.ensures
