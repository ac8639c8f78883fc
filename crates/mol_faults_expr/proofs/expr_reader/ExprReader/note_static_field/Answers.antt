use Rattle.std.proofs.Common.{refl, sym, ap, ◌∙◌}
use Rattle.std.proofs.lemmas.Result.{on_ok_weaker}
use Rattle.mol_faults_expr.proofs.SimpleNames.{field-reads, noted-simply, otherwise-is}
use Rattle.mol_faults_expr.specs.Kept.{mode_of}
use Rattle.mol_faults_expr.specs.Noted.{note}
use Rattle.mol_spell_rules.specs.SpelledExpressions.{asks_name, by_name, field_reference, on_owner, reads_field}
use Rattle.mol_table_rules.specs.Program.{owner_at}
use Rattle.mol_faults_expr.proofs.expr_reader.ExprReader.note_static_field.Goals as goal

pub returns-then-reads_field : goal.returns-then-reads_field
returns-then-reads_field g c =
    let writer = g.N.Names.writer c.args.self.now.names.now in
    let locals = g.N.Names.locals c.args.self.now.names.now in
    let place = c.args.self.now.place in
    let misreads = c.args.misreads.now in
    on_ok_weaker c.add_read.result (λ added. added ∙ noted-simply writer
    (λ form. field_reference writer locals form c.args.field.now (mode_of c.args.mode)) (on_owner (owner_at writer.program c.args.field.now))
    (reads_field writer locals c.args.field.now) (field-reads writer locals place c.requires.reader c.args.field.now (mode_of c.args.mode))
    (sym c.reads_field.ensures ∙ c.if-reads_field.true) misreads) c.add_read.ensures

pub returns-in-Some : goal.returns-in-Some
returns-in-Some g c =
    let writer = g.N.Names.writer c.args.self.now.names.now in
    let locals = g.N.Names.locals c.args.self.now.names.now in
    let place = c.args.self.now.place in
    let misreads = c.args.misreads.now in
    on_ok_weaker c.note_field_of.result (λ noted. noted
    ∙ ap (λ owner. note writer misreads (field_reference writer locals (on_owner owner) c.args.field.now (mode_of c.args.mode))) c.in-Some.ensures
    ∙ ap (note writer misreads) (sym (otherwise-is writer (λ form. field_reference writer locals form c.args.field.now (mode_of c.args.mode)) (on_owner
    (owner_at writer.program c.args.field.now))
    (reads_field writer locals c.args.field.now) (field-reads writer locals place c.requires.reader c.args.field.now (mode_of c.args.mode))
    (sym c.reads_field.ensures ∙ c.if-reads_field.false)))) c.note_field_of.ensures

pub returns-in-None : goal.returns-in-None
returns-in-None g c =
    let writer = g.N.Names.writer c.args.self.now.names.now in
    let locals = g.N.Names.locals c.args.self.now.names.now in
    let place = c.args.self.now.place in
    let misreads = c.args.misreads.now in
    on_ok_weaker c.note_variable.result (λ noted. noted (field_reference writer locals by_name c.args.field.now (mode_of c.args.mode)) refl
    refl (ap (λ name. asks_name writer locals name (mode_of c.args.mode)) c.name_of.ensures)
    ∙ ap (λ owner. note writer misreads (field_reference writer locals (on_owner owner) c.args.field.now (mode_of c.args.mode))) c.in-None.ensures
    ∙ ap (note writer misreads) (sym (otherwise-is writer (λ form. field_reference writer locals form c.args.field.now (mode_of c.args.mode)) (on_owner
    (owner_at writer.program c.args.field.now))
    (reads_field writer locals c.args.field.now) (field-reads writer locals place c.requires.reader c.args.field.now (mode_of c.args.mode))
    (sym c.reads_field.ensures ∙ c.if-reads_field.false)))) c.note_variable.ensures
