use Rattle.std.proofs.Common.{[], ◌∷◌, None, refl, ap, ◌∙◌}
use Rattle.std.proofs.lemmas.Result.{IfOk-weaker}
use Rattle.mol_faults_expr.proofs.ReadHere.{reads-so}
use Rattle.mol_faults_expr.specs.Names.{created_value}
use Rattle.mol_faults_expr.specs.Noted.{noted_after}
use Rattle.mol_spell_rules.specs.references.References.{method_target}
use Rattle.mol_resolve_rules.specs.StaticTypes.{class_of_only_declaration}
use Rattle.mol_spell_rules.specs.SpelledExpressions.{constructor_reference, no_name}
use Rattle.mol_spell_rules.specs.Writers.{constructor_asked}
use Rattle.mol_faults_expr.proofs.expr_reader.ExprReader.constructor.Goals as goal

pub returns-in-Some : goal.returns-in-Some
returns-in-Some g c =
    let writer = g.N.Names.writer c.args.self.now.names.now in
    let locals = g.N.Names.locals c.args.self.now.names.now in
    let misreads = c.args.misreads.now in
    IfOk-weaker c.created_class.result _ _ (λ ty read. record {
      noted = read.noted
          ∙ ap (λ class. noted_after writer misreads (constructor_reference writer locals class c.args.constructor.now
          c.in_ok-count.count ∷ [])) c.in-Some.ensures
          ∙ ap (λ arity. noted_after writer misreads (constructor_reference writer locals
          (class_of_only_declaration writer.program c.args.constructor.now) c.args.constructor.now arity ∷ [])) c.in_ok-count.ensures.ok;
      typed = read.typed ∙ ap created_value c.in-Some.ensures;
    }) c.created_class.ensures

pub returns-in_ok-note-in-None : goal.returns-in_ok-note-in-None
returns-in_ok-note-in-None g c =
    let writer = g.N.Names.writer c.args.self.now.names.now in
    let locals = g.N.Names.locals c.args.self.now.names.now in
    let place = c.args.self.now.place in
    let kept = c.args.self.now.locals.now in
    let misreads = c.args.misreads.now in
    record {
      noted = c.in_ok-note-in-None.ensures (constructor_reference writer locals None c.args.constructor.now c.args.arity) refl
          (reads-so writer locals place kept c.requires _ (method_target c.args.constructor.now) _ locals _ _
          (c.constructor_reads-reads.ensures locals) (refl) (ap (constructor_asked no_name) c.in_ok-count.ensures.ok))
          ∙ ap (λ class. noted_after writer misreads (constructor_reference writer locals class c.args.constructor.now c.args.arity ∷
          [])) c.in-None.ensures;
      typed = ap created_value c.in-None.ensures;
    }
