use Rattle.std.proofs.Common.{refl, ap}
use Rattle.mol_faults_expr.specs.Kept.{mode_of}
use Rattle.mol_faults_expr.specs.Names.{name_reference}
use Rattle.mol_spell_rules.specs.references.References.{outside_target}
use Rattle.mol_spell_rules.specs.SpelledExpressions.{asks_name}
use Rattle.mol_faults_expr.proofs.expr_reader.ExprReader.outside_name.Goals as goal

pub returns : goal.returns
returns g c =
    let writer = g.N.Names.writer c.args.self.now.names.now in
    let locals = g.N.Names.locals c.args.self.now.names.now in
    let mode = mode_of c.args.mode in
    record {
      noted = c.in_ok-note_variable.ensures (name_reference writer locals c.args.name.now mode)
          (ap (λ text. outside_target text) c.as_str.ensures) refl (ap (λ name. asks_name writer locals name mode) c.as_str-2.ensures);
      typed = refl;
    }
