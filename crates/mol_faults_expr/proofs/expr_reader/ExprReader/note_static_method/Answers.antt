use Rattle.std.proofs.Common.{sym, ap, ◌∙◌}
use Rattle.std.proofs.lemmas.Result.{on_ok_weaker}
use Rattle.mol_faults_expr.proofs.SimpleNames.{method-reads, noted-simply, otherwise-is}
use Rattle.mol_faults_expr.specs.Noted.{note}
use Rattle.mol_resolve_rules.specs.StaticTypes.{class_of_only_declaration}
use Rattle.mol_spell_rules.specs.SpelledExpressions.{by_name, call_reference, on_class, on_owner, reads_method}
use Rattle.mol_faults_expr.proofs.expr_reader.ExprReader.note_static_method.Goals as goal

pub returns-then-reads_method : goal.returns-then-reads_method
returns-then-reads_method g c =
    let writer = g.N.Names.writer c.args.self.now.names.now in
    let locals = g.N.Names.locals c.args.self.now.names.now in
    let place = c.args.self.now.place in
    let misreads = c.args.misreads.now in
    on_ok_weaker c.add_read.result (λ added. added ∙ noted-simply writer
    (λ form. call_reference writer locals form c.args.method.now c.args.arity) (on_owner
    (class_of_only_declaration writer.program c.args.method.now))
    (reads_method writer locals c.args.method.now c.args.arity) (method-reads writer locals c.args.method.now c.args.arity)
    (ap (reads_method writer locals c.args.method.now) (sym c.in_ok-count.ensures.ok) ∙ sym c.reads_method.ensures
    ∙ c.if-reads_method.true) misreads) c.add_read.ensures

pub returns-in-Some : goal.returns-in-Some
returns-in-Some g c =
    let writer = g.N.Names.writer c.args.self.now.names.now in
    let locals = g.N.Names.locals c.args.self.now.names.now in
    let place = c.args.self.now.place in
    let misreads = c.args.misreads.now in
    on_ok_weaker c.note_method_of.result (λ noted. noted
    ∙ ap (λ arity. note writer misreads (call_reference writer locals
    (on_class c.in-Some.class) c.args.method.now arity)) c.in_ok-count.ensures.ok
    ∙ ap (λ owner. note writer misreads (call_reference writer locals (on_owner owner) c.args.method.now c.args.arity)) c.in-Some.ensures
    ∙ ap (note writer misreads) (sym (otherwise-is writer (λ form. call_reference writer locals form c.args.method.now c.args.arity)
    (on_owner (class_of_only_declaration writer.program c.args.method.now))
    (reads_method writer locals c.args.method.now c.args.arity) (method-reads writer locals c.args.method.now c.args.arity)
    (ap (reads_method writer locals c.args.method.now) (sym c.in_ok-count.ensures.ok) ∙ sym c.reads_method.ensures
    ∙ c.if-reads_method.false)))) c.note_method_of.ensures

pub returns-in-None : goal.returns-in-None
returns-in-None g c =
    let writer = g.N.Names.writer c.args.self.now.names.now in
    let locals = g.N.Names.locals c.args.self.now.names.now in
    let place = c.args.self.now.place in
    let misreads = c.args.misreads.now in
    on_ok_weaker c.note_simply.result (λ noted. noted
    ∙ ap (λ arity. note writer misreads (call_reference writer locals by_name c.args.method.now arity)) c.in_ok-count.ensures.ok
    ∙ ap (λ owner. note writer misreads (call_reference writer locals (on_owner owner) c.args.method.now c.args.arity)) c.in-None.ensures
    ∙ ap (note writer misreads) (sym (otherwise-is writer (λ form. call_reference writer locals form c.args.method.now c.args.arity)
    (on_owner (class_of_only_declaration writer.program c.args.method.now))
    (reads_method writer locals c.args.method.now c.args.arity) (method-reads writer locals c.args.method.now c.args.arity)
    (ap (reads_method writer locals c.args.method.now) (sym c.in_ok-count.ensures.ok) ∙ sym c.reads_method.ensures
    ∙ c.if-reads_method.false)))) c.note_simply.ensures
