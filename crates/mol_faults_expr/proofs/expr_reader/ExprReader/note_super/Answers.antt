use Rattle.std.proofs.Common.{refl, ap}
use Rattle.std.proofs.lemmas.Result.{on_ok_weaker}
use Rattle.mol_scope.specs.asked.Answers.{target_of}
use Rattle.mol_faults_expr.proofs.ReadHere.{reads-so}
use Rattle.mol_spell_rules.specs.SpelledExpressions.{plain}
use Rattle.mol_spell_rules.specs.Writers.{super_constructor_asked}
use Rattle.mol_faults_expr.proofs.expr_reader.ExprReader.note_super.Goals as goal

pub returns : goal.returns
returns g c =
    let writer = g.N.Names.writer c.args.self.now.names.now in
    let locals = g.N.Names.locals c.args.self.now.names.now in
    let place = c.args.self.now.place in
    let kept = c.args.self.now.locals.now in
    on_ok_weaker c.note.result (λ noted. noted (plain writer locals (target_of c.args.target.now)
    (super_constructor_asked c.args.arity)) (refl)
    (reads-so writer locals place kept c.requires _ (target_of c.args.target.now) _ locals _ _ (c.super_reads-reads.ensures locals) refl (ap super_constructor_asked c.in_ok-count.ensures.ok))) c.note.ensures
