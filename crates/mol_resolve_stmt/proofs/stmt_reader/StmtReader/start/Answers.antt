use Rattle.std.proofs.Common.{ap}
use Rattle.mol_resolve_readings.specs.locals.Scoped.{locals_of}
use Rattle.mol_resolve_rules.specs.ReadStatements.{read_exprs, read_start}
use Rattle.mol_resolve_expr.proofs.Outcomes.{made_read}
use Rattle.mol_resolve_stmt.proofs.InTurn.{fine_on, goes_as, made_on, none_declared}
use Rattle.mol_resolve_stmt.proofs.TreesRead.{found_read}
use Rattle.mol_resolve_stmt.proofs.stmt_reader.StmtReader.start.Goals as goal
use Rattle.mol_values_types.specs.declared.iblock.IForStart.TheVariants as starts

pub returns-in-None : goal.returns-in-None
returns-in-None g c =
    let reader = g.N.Names.reader c.args.self.now.names.now in
    let locals = locals_of c.args.locals.now in
    goes_as _ _ _ _ _ _ _ (ap (λ start. read_start reader c.args.at start locals) c.in-None.is) (fine_on starts.None locals _)

pub returns-in_ok-read-in-Let : goal.returns-in_ok-read-in-Let
returns-in_ok-read-in-Let g c =
    let reader = g.N.Names.reader c.args.self.now.names.now in
    let locals = locals_of c.args.locals.now in
    goes_as _ _ _ _ _ _ _ (ap (λ start. read_start reader c.args.at start locals) c.in-Let.is)
    (made_on (λ declared. starts.Let declared) _ _ _ locals _ _ _
    c.in_ok-read-in-Let.ensures c.start_of_let.ensures)

pub returns-in_ok-values-in-Do : goal.returns-in_ok-values-in-Do
returns-in_ok-values-in-Do g c =
    let reader = g.N.Names.reader c.args.self.now.names.now in
    let locals = locals_of c.args.locals.now in
    goes_as _ _ _ _ _ _ _ (ap (λ start. read_start reader c.args.at start locals) c.in-Do.is)
    (none_declared _ _ locals _ _ (made_read (λ values. starts.Do values) (read_exprs reader locals _) _ _ _ _
    (found_read reader locals _ _ _ _ _ c.items.ensures c.in_ok-values-in-Do.ensures) c.start_of_values.ensures))
