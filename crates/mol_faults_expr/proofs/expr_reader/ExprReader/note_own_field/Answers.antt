use Rattle.std.proofs.Common.{sym, ap, ◌∙◌}
use Rattle.std.proofs.lemmas.Result.{on_ok_weaker}
use Rattle.jav_names.specs.OnValues.{class_value}
use Rattle.mol_faults_expr.proofs.ReadHere.{class-is}
use Rattle.mol_faults_expr.proofs.SimpleNames.{field-reads, noted-simply, otherwise-is}
use Rattle.mol_faults_expr.specs.Kept.{mode_of}
use Rattle.mol_faults_expr.specs.Names.{field_on_reference}
use Rattle.mol_faults_expr.specs.Noted.{note}
use Rattle.mol_spell_rules.specs.SpelledExpressions.{field_reference, on_this, reads_field}
use Rattle.mol_faults_expr.proofs.expr_reader.ExprReader.note_own_field.Goals as goal

pub returns-then-reads_field : goal.returns-then-reads_field
returns-then-reads_field g c =
    let writer = g.N.Names.writer c.args.self.now.names.now in
    let locals = g.N.Names.locals c.args.self.now.names.now in
    let place = c.args.self.now.place in
    let misreads = c.args.misreads.now in
    on_ok_weaker c.add_read.result (λ added. added ∙ noted-simply writer
    (λ form. field_reference writer locals form c.args.field.now (mode_of c.args.mode)) on_this
    (reads_field writer locals c.args.field.now) (field-reads writer locals place c.requires.reader c.args.field.now (mode_of c.args.mode))
    (sym c.reads_field.ensures ∙ c.if-reads_field.true) misreads) c.add_read.ensures

pub returns : goal.returns
returns g c =
    let writer = g.N.Names.writer c.args.self.now.names.now in
    let locals = g.N.Names.locals c.args.self.now.names.now in
    let place = c.args.self.now.place in
    let kept = c.args.self.now.locals.now in
    let misreads = c.args.misreads.now in
    on_ok_weaker c.note_field_on.result (λ noted. noted
    ∙ ap (λ class. note writer misreads (field_on_reference writer locals (class_value class) c.args.field.now))
    (class-is writer locals place kept c.requires)
    ∙ ap (note writer misreads) (sym (otherwise-is writer (λ form. field_reference writer locals form c.args.field.now (mode_of c.args.mode)) on_this
    (reads_field writer locals c.args.field.now) (field-reads writer locals place c.requires.reader c.args.field.now (mode_of c.args.mode))
    (sym c.reads_field.ensures ∙ c.if-reads_field.false)))) c.note_field_on.ensures
