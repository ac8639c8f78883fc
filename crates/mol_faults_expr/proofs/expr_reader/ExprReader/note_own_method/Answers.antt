use Rattle.std.proofs.Common.{sym, ap, ◌∙◌}
use Rattle.std.proofs.lemmas.Result.{on_ok_weaker}
use Rattle.jav_names.specs.OnValues.{class_value}
use Rattle.mol_faults_expr.proofs.ReadHere.{class-is}
use Rattle.mol_faults_expr.proofs.SimpleNames.{method-reads, noted-simply, otherwise-is}
use Rattle.mol_faults_expr.specs.Names.{method_on_reference}
use Rattle.mol_faults_expr.specs.Noted.{note}
use Rattle.mol_spell_rules.specs.SpelledExpressions.{call_reference, on_this, reads_method}
use Rattle.mol_faults_expr.proofs.expr_reader.ExprReader.note_own_method.Goals as goal

pub returns-then-reads_method : goal.returns-then-reads_method
returns-then-reads_method g c =
    let writer = g.N.Names.writer c.args.self.now.names.now in
    let locals = g.N.Names.locals c.args.self.now.names.now in
    let place = c.args.self.now.place in
    let misreads = c.args.misreads.now in
    on_ok_weaker c.add_read.result (λ added. added ∙ noted-simply writer
    (λ form. call_reference writer locals form c.args.method.now c.args.arity) on_this
    (reads_method writer locals c.args.method.now c.args.arity) (method-reads writer locals c.args.method.now c.args.arity)
    (ap (reads_method writer locals c.args.method.now) (sym c.in_ok-count.ensures.ok) ∙ sym c.reads_method.ensures
    ∙ c.if-reads_method.true) misreads) c.add_read.ensures

pub returns : goal.returns
returns g c =
    let writer = g.N.Names.writer c.args.self.now.names.now in
    let locals = g.N.Names.locals c.args.self.now.names.now in
    let place = c.args.self.now.place in
    let kept = c.args.self.now.locals.now in
    let misreads = c.args.misreads.now in
    on_ok_weaker c.note_method_on.result (λ noted. noted
    ∙ ap (λ class. note writer misreads (method_on_reference writer locals (class_value class) c.args.method.now c.args.arity))
    (class-is writer locals place kept c.requires)
    ∙ ap (note writer misreads) (sym (otherwise-is writer (λ form. call_reference writer locals form c.args.method.now c.args.arity)
    on_this
    (reads_method writer locals c.args.method.now c.args.arity) (method-reads writer locals c.args.method.now c.args.arity)
    (ap (reads_method writer locals c.args.method.now) (sym c.in_ok-count.ensures.ok) ∙ sym c.reads_method.ensures
    ∙ c.if-reads_method.false)))) c.note_method_on.ensures
