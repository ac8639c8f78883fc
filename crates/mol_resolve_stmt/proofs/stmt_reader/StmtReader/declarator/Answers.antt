use Rattle.std.proofs.Common.{ℕ, subst}
use Rattle.std.proofs.lemmas.Result.{IfOk-weaker}
use Rattle.mol_resolve_expr.proofs.Outcomes.{made_read}
use Rattle.mol_resolve_readings.specs.locals.Scoped.{locals_of}
use Rattle.mol_resolve_rules.specs.Outcomes.{mapped}
use Rattle.mol_resolve_rules.specs.ReadStatements.{ReadsTo, declaring_none, read_maybe, redeclared_faults}
use Rattle.mol_resolve_stmt.proofs.InTurn.{after_declaring, none_declared}
use Rattle.mol_resolve_stmt.proofs.stmt_reader.StmtReader.declarator.Goals as goal
use Rattle.mol_resolve_stmt.specs.GoesOn.{GoesOn}
use Rattle.mol_resolve_stmt.specs.Made as made
use Rattle.mol_values_types.specs.declared.iblock.IDeclarator.{IDeclarator}

pub returns : goal.returns
returns g c =
    let reader = g.N.Names.reader c.args.self.now.names.now in
    let locals = locals_of c.args.locals.now in
    let name = c.args.declarator.now.name in
    let init = c.args.declarator.now.init in
    let after = locals_of c.declare.new.locals in
    let part : ReadsTo ℕ IDeclarator =
    λ inside. declaring_none inside (mapped (made.declarator name) (read_maybe reader inside init))
    in
    IfOk-weaker c.declarator.result _ _ (λ value is.
    after_declaring _ (redeclared_faults reader c.args.at name locals) (part _) value locals after after _ _ _
    c.in_ok-declare.ensures.locals c.in_ok-declare.ensures.faults
    (subst (λ inside. GoesOn (part inside) value after after c.declare.new.faults c.maybe.new.faults) c.in_ok-declare.ensures.locals
    (none_declared _ value after _ _ (made_read (made.declarator name) (read_maybe reader after init) _ value _ _ c.in_ok-init.ensures
    is))))
    c.declarator.ensures
