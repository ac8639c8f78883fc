use Rattle.std.proofs.Common.{ℕ, subst}
use Rattle.mol_resolve_expr.proofs.Outcomes.{made_read}
use Rattle.mol_resolve_readings.specs.reads.Reads.{Reads}
use Rattle.mol_resolve_rules.specs.Locals.{Locals, no_locals}
use Rattle.mol_resolve_rules.specs.ReadStatements.{block_reading}
use Rattle.mol_resolve_stmt.proofs.stmt_reader.StmtReader.body.Goals as goal
use Rattle.mol_resolve_stmt.specs.Made as made

pub returns : goal.returns
returns g c =
    let reader = g.N.Names.reader c.args.self.now.names.now in
    let block = c.args.block.now in
    let read = c.in_ok-block.block in
    made_read made.body (block_reading reader block no_locals).outcome read c.body_of.result _ _
    (subst (λ (locals : Locals ℕ). Reads (block_reading reader block locals).outcome read c.args.faults.now c.block.new.faults)
    c.new-locals.ensures c.in_ok-block.ensures.is_read) c.body_of.ensures
