use Rattle.std.proofs.Common.{refl, ap}
use Rattle.std.proofs.lemmas.Result.{on_ok_weaker}
use Rattle.mol_faults_expr.proofs.ReadHere.{reads-so}
use Rattle.mol_faults_expr.specs.Names.{field_on_reference}
use Rattle.mol_spell_rules.specs.references.References.{field_target}
use Rattle.mol_spell_rules.specs.Writers.{field_asked}
use Rattle.mol_scope.specs.types.Kept.{view_value}
use Rattle.mol_faults_expr.proofs.expr_reader.ExprReader.note_field_on.Goals as goal

pub returns : goal.returns
returns g c =
    let writer = g.N.Names.writer c.args.self.now.names.now in
    let locals = g.N.Names.locals c.args.self.now.names.now in
    let place = c.args.self.now.place in
    let kept = c.args.self.now.locals.now in
    on_ok_weaker c.note.result (λ noted. noted (field_on_reference writer locals (view_value c.args.ty.now) c.args.field.now) (refl)
    (reads-so writer locals place kept c.requires _ (field_target c.args.field.now) _ locals _ _ (c.field_reads-reads.ensures locals)
    (refl) (ap (field_asked (view_value c.args.ty.now)) c.name_of.ensures))) c.note.ensures
