use Rattle.mol_resolve_expr.proofs.Outcomes.{both_read}
use Rattle.mol_resolve_readings.specs.locals.Scoped.{locals_of}
use Rattle.mol_resolve_readings.specs.reads.Reads.{Reads}
use Rattle.mol_resolve_rules.specs.ReadStatements.{read_exprs, read_header, read_maybe}
use Rattle.mol_resolve_stmt.proofs.stmt_reader.StmtReader.test_and_steps.Goals as goal
use Rattle.std.proofs.Common.{subst, sym}

pub returns : goal.returns
returns g c =
    let reader = g.N.Names.reader c.args.self.now.names.now in
    let locals = locals_of c.args.locals.now in
    subst (λ rest. Reads (read_header reader locals c.args.test.now c.args.steps.now) rest c.args.faults.now c.exprs.new.faults)
    (sym c.both_of.ensures)
    (both_read (read_maybe reader locals c.args.test.now) (read_exprs reader locals c.args.steps.now) _ _ _ _ _
    c.in_ok-test.ensures c.in_ok-steps.ensures)
