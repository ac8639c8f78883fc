use Rattle.std.proofs.Common.{refl, ap, ◌∙◌}
use Rattle.mol_scope.specs.asked.Answers.{target_of}
use Rattle.mol_faults_expr.proofs.ReadHere.{reads-so, text-is}
use Rattle.mol_faults_expr.specs.Names.{created_class_reference}
use Rattle.mol_spell_rules.specs.Writers.{constructor_asked, text_of}
use Rattle.mol_faults_expr.proofs.expr_reader.ExprReader.created_class.Goals as goal

pub returns : goal.returns
returns g c =
    let writer = g.N.Names.writer c.args.self.now.names.now in
    let locals = g.N.Names.locals c.args.self.now.names.now in
    let place = c.args.self.now.place in
    let kept = c.args.self.now.locals.now in
    record {
      noted = c.in_ok-note.ensures (created_class_reference writer locals
          (target_of c.args.target.now) c.args.class.now c.args.arity) refl
          (reads-so writer locals place kept c.requires _ (target_of c.args.target.now) _ locals _ _
          (c.constructor_reads-reads.ensures locals) (refl) (ap (λ text. constructor_asked text c.args.arity)
          (c.as_str.ensures ∙ text-is c.in_ok-spelled.spelled ∙ ap text_of c.in_ok-spelled.ensures)));
      typed = refl;
    }
