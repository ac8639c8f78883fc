use Rattle.std.proofs.Common.{refl, ap, ◌∙◌}
use Rattle.mol_faults_expr.proofs.ReadHere.{local-is}
use Rattle.mol_faults_expr.specs.Kept.{mode_of}
use Rattle.mol_faults_expr.specs.Names.{local_reference}
use Rattle.mol_spell_rules.specs.SpelledExpressions.{asks_name}
use Rattle.mol_faults_expr.proofs.expr_reader.ExprReader.local.Goals as goal

pub returns-in-Some : goal.returns-in-Some
returns-in-Some g c =
    let writer = g.N.Names.writer c.args.self.now.names.now in
    let locals = g.N.Names.locals c.args.self.now.names.now in
    let place = c.args.self.now.place in
    let kept = c.args.self.now.locals.now in
    let mode = mode_of c.args.mode in
    record {
      noted = c.in_ok-note_variable.ensures (local_reference writer locals c.args.number mode) refl refl
          (ap (λ name. asks_name writer locals name mode) c.local_name.ensures);
      typed = c.of_type.ensures ∙ local-is writer locals place kept c.requires c.args.number _ c.in-Some.ensures;
    }

pub returns-in-None : goal.returns-in-None
returns-in-None g c =
    let writer = g.N.Names.writer c.args.self.now.names.now in
    let locals = g.N.Names.locals c.args.self.now.names.now in
    let place = c.args.self.now.place in
    let kept = c.args.self.now.locals.now in
    let mode = mode_of c.args.mode in
    record {
      noted = c.in_ok-note_variable.ensures (local_reference writer locals c.args.number mode) refl refl
          (ap (λ name. asks_name writer locals name mode) c.local_name.ensures);
      typed = local-is writer locals place kept c.requires c.args.number _ c.in-None.ensures;
    }
