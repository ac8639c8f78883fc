use Rattle.std.proofs.Common.{ap}
use Rattle.std.proofs.lemmas.Result.{on_ok_weaker}
use Rattle.mol_faults_expr.proofs.ReadHere.{reads-so}
use Rattle.mol_faults_expr.specs.Names.{outside_call_reference}
use Rattle.mol_spell_rules.specs.references.References.{outside_target}
use Rattle.mol_spell_rules.specs.Writers.{call_asked}
use Rattle.mol_faults_expr.proofs.expr_reader.ExprReader.note_outside_call.Goals as goal

pub returns : goal.returns
returns g c =
    let writer = g.N.Names.writer c.args.self.now.names.now in
    let locals = g.N.Names.locals c.args.self.now.names.now in
    let place = c.args.self.now.place in
    let kept = c.args.self.now.locals.now in
    on_ok_weaker c.note.result (λ noted. noted (outside_call_reference writer locals c.args.name.now c.args.arity) (ap
    (λ text. outside_target text) c.as_str.ensures)
    (reads-so writer locals place kept c.requires _ (outside_target c.args.name.now) _ locals _ _ (c.call_reads-reads.ensures locals)
    (ap (λ text. outside_target text) c.as_str.ensures) (ap (call_asked c.args.name.now) c.in_ok-count.ensures.ok))) c.note.ensures
