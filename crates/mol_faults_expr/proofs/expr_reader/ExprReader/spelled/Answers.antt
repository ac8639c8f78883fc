use Rattle.std.proofs.Common.{[], sym, ap, ◌∙◌, if◌then◌else◌}
use Rattle.jav_names.specs.DottedNames.{cut}
use Rattle.mol_spell_rules.specs.Writers.{full_of, simple_of}
use Rattle.mol_spell_expr.specs.Importables.{importable_of}
use Rattle.mol_faults_expr.proofs.expr_reader.ExprReader.spelled.Goals as goal

pub returns-then-is_spelled_simply : goal.returns-then-is_spelled_simply
returns-then-is_spelled_simply g c =
    let writer = g.N.Names.writer c.args.self.now.names.now in
    let locals = g.N.Names.locals c.args.self.now.names.now in
    let what = importable_of c.args.what in
    (λ i. record { first = (c.in_ok-text.ensures ∙ c.simple_name.ensures) i; rest = [] })
    ∙ ap (λ b. if b then record { first = simple_of writer.program what; rest = [] } else cut (full_of writer.program what))
    (sym (sym c.is_spelled_simply.ensures ∙ c.if-is_spelled_simply.true))

pub returns : goal.returns
returns g c =
    let writer = g.N.Names.writer c.args.self.now.names.now in
    let locals = g.N.Names.locals c.args.self.now.names.now in
    let what = importable_of c.args.what in
    ap cut c.in_ok-text-2.ensures
    ∙ ap (λ b. if b then record { first = simple_of writer.program what; rest = [] } else cut (full_of writer.program what))
    (sym (sym c.is_spelled_simply.ensures ∙ c.if-is_spelled_simply.false))
