use Rattle.std.proofs.Common.{refl, ap, ◌∙◌}
use Rattle.std.proofs.lemmas.Result.{on_ok_weaker}
use Rattle.mol_faults_expr.proofs.ReadHere.{reads-so}
use Rattle.mol_spell_rules.specs.references.References.{method_target}
use Rattle.mol_spell_rules.specs.SpelledExpressions.{by_name, call_reference}
use Rattle.mol_spell_rules.specs.Writers.{call_asked}
use Rattle.mol_faults_expr.proofs.expr_reader.ExprReader.note_simply.Goals as goal

pub returns : goal.returns
returns g c =
    let writer = g.N.Names.writer c.args.self.now.names.now in
    let locals = g.N.Names.locals c.args.self.now.names.now in
    let place = c.args.self.now.place in
    let kept = c.args.self.now.locals.now in
    on_ok_weaker c.note.result (λ noted. noted (call_reference writer locals by_name c.args.method.now c.args.arity) refl
    (reads-so writer locals place kept c.requires _ (method_target c.args.method.now) _ locals _ _ (c.call_reads-reads.ensures locals) refl
    (ap (λ name. call_asked name c.args.arity) (c.in_ok-name.ensures ∙ c.name_of.ensures)))) c.note.ensures
