use Rattle.std.proofs.Common.{ℕ, List, Option}
use Rattle.std.proofs.lemmas.Result.{IfOk-weaker}
use Rattle.mol_resolve_readings.specs.locals.Scoped.{locals_of}
use Rattle.mol_resolve_rules.specs.ReadStatements.{ReadsTo, declaring_none, read_header, read_start, then_next}
use Rattle.mol_resolve_stmt.proofs.InTurn.{made_on, none_declared, then_on}
use Rattle.mol_resolve_stmt.proofs.stmt_reader.StmtReader.for_header.Goals as goal
use Rattle.mol_resolve_stmt.specs.Loops.{for_part}
use Rattle.mol_values_types.specs.declared.iexpr.IExpr.{IExpr}

pub returns : goal.returns
returns g c =
    let reader = g.N.Names.reader c.args.self.now.names.now in
    let locals = locals_of c.args.locals.now in
    let start = read_start reader c.args.at c.args.start.now locals in
    let rest : ReadsTo ℕ (Option IExpr × List IExpr) =
    λ inside. declaring_none inside (read_header reader inside c.args.test.now c.args.steps.now)
    in
    IfOk-weaker c.for_of.result _ _ (λ header is. made_on for_part (then_next start rest) _ header locals _ _ _
    (then_on start rest _ _ locals _ _ _ _ _ c.in_ok-start.ensures (none_declared _ _ _ _ _ c.in_ok-rest.ensures)) is) c.for_of.ensures
