use Rattle.std.proofs.lemmas.Result.{IfOk-weaker}
use Rattle.mol_resolve_expr.proofs.Outcomes.{both_read, made_read}
use Rattle.mol_resolve_readings.specs.locals.Scoped.{locals_of}
use Rattle.mol_resolve_rules.specs.Outcomes.{both, mapped}
use Rattle.mol_resolve_rules.specs.ReadStatements.{redeclared_faults}
use Rattle.mol_resolve_rules.specs.ReadTrees.{alone, reading}
use Rattle.mol_resolve_rules.specs.ReadTypes.{read_type}
use Rattle.mol_resolve_stmt.proofs.InTurn.{then_declared}
use Rattle.mol_resolve_stmt.proofs.stmt_reader.StmtReader.each_header.Goals as goal
use Rattle.mol_resolve_stmt.specs.Loops.{each_part}

pub returns : goal.returns
returns g c =
    let reader = g.N.Names.reader c.args.self.now.names.now in
    let locals = locals_of c.args.locals.now in
    let ty = read_type reader c.args.at c.args.ty.now in
    let e = alone reader locals (reading reader c.args.e.now) in
    let part = each_part c.args.is_final c.args.name.now in
    IfOk-weaker c.each_of.result _ _ (λ header is.
    then_declared _ (redeclared_faults reader c.args.at c.args.name.now locals) (mapped part (both ty e)) header locals _ _ _ _
    (made_read part (both ty e) _ header _ _ (both_read ty e _ _ _ _ _ c.in_ok-read.ensures c.in_ok-e.ensures) is)
    c.in_ok-declare.ensures.locals c.in_ok-declare.ensures.faults) c.each_of.ensures
