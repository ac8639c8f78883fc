use Rattle.std.proofs.Common.{refl, ◌∙◌}
use Rattle.std.proofs.lemmas.Result.{on_ok_weaker}
use Rattle.mol_faults_expr.proofs.ReadHere.{reads-so}
use Rattle.mol_faults_expr.specs.Names.{method_on_reference}
use Rattle.mol_spell_rules.specs.references.References.{method_target}
use Rattle.mol_spell_rules.specs.Writers.{method_asked}
use Rattle.mol_scope.specs.types.Kept.{view_value}
use Rattle.mol_faults_expr.proofs.expr_reader.ExprReader.note_method_on.Goals as goal

pub returns : goal.returns
returns g c =
    let writer = g.N.Names.writer c.args.self.now.names.now in
    let locals = g.N.Names.locals c.args.self.now.names.now in
    let place = c.args.self.now.place in
    let kept = c.args.self.now.locals.now in
    on_ok_weaker c.note.result (λ noted. noted (method_on_reference writer locals
    (view_value c.args.ty.now) c.args.method.now c.args.arity) (refl)
    (reads-so writer locals place kept c.requires _ (method_target c.args.method.now) _ locals _ _ (c.method_reads-reads.ensures locals)
    (refl) (λ i. method_asked (view_value c.args.ty.now) ((c.in_ok-name.ensures ∙ c.name_of.ensures) i)
    (c.in_ok-count.ensures.ok i)))) c.note.ensures
