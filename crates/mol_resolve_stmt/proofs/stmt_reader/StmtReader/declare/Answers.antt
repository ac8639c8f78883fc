use Rattle.std.proofs.Common.{ap, ◌∙◌}
use Rattle.std.proofs.lemmas.Result.{on_ok_weaker}
use Rattle.mol_resolve_readings.specs.locals.Scoped.{locals_of}
use Rattle.mol_resolve_rules.specs.Locals.{declare}
use Rattle.mol_resolve_stmt.proofs.stmt_reader.StmtReader.declare.Goals as goal

pub returns-clause-locals : goal.returns-clause-locals
returns-clause-locals g c =
    on_ok_weaker c.declare.result (λ is. is ∙ ap (λ type. declare (record { name = c.args.name.now; type = type })
    (locals_of c.args.locals.now)) c.in_ok-seen.ensures) c.declare.ensures.ok
