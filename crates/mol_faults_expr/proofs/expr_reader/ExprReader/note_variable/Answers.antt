use Rattle.std.proofs.Common.{sym, ap, ◌∙◌}
use Rattle.std.proofs.lemmas.Result.{on_ok_weaker}
use Rattle.mol_base.specs.declared.ident.Id.{Id}
use Rattle.mol_faults_expr.proofs.ReadHere.{reads-so}
use Rattle.mol_faults_expr.specs.Kept.{mode_of}
use Rattle.mol_faults_expr.specs.Readings.{reads_as}
use Rattle.mol_resolve_rules.specs.Locals.{Locals}
use Rattle.mol_spell_rules.specs.SpelledExpressions.{asks_name}
use Rattle.mol_faults_expr.proofs.expr_reader.ExprReader.note_variable.Goals as goal

pub returns-in-None : goal.returns-in-None
returns-in-None g c =
    let writer = g.N.Names.writer c.args.self.now.names.now in
    let locals = g.N.Names.locals c.args.self.now.names.now in
    let place = c.args.self.now.place in
    let kept = c.args.self.now.locals.now in
    on_ok_weaker c.note.result (λ noted reference target around asked. noted reference target
    (reads-so writer locals place kept c.requires _ reference.target _ locals _ reference.asked
    (c.name_reads-reads.ensures locals c.requires.at) target
    (ap (λ mode. asks_name writer locals c.args.name.now (mode_of mode)) (sym c.in-None.is) ∙ asked)
    ∙ ap (λ (l : Locals Id). reads_as writer.reader l reference.target reference.asked) around)) c.note.ensures

pub returns-in-Some : goal.returns-in-Some
returns-in-Some g c =
    let writer = g.N.Names.writer c.args.self.now.names.now in
    let locals = g.N.Names.locals c.args.self.now.names.now in
    on_ok_weaker c.note_before.result (λ noted reference target around asked. noted reference target around
    (ap (λ mode. asks_name writer locals c.args.name.now (mode_of mode)) (sym c.in-Some.is) ∙ asked)) c.note_before.ensures
