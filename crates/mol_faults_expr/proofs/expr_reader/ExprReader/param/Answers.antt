use Rattle.std.proofs.Common.{refl, ap, ◌∙◌}
use Rattle.mol_faults_expr.specs.Kept.{mode_of}
use Rattle.mol_faults_expr.specs.Names.{param_reference}
use Rattle.mol_resolve_rules.specs.StaticTypes.{param_value}
use Rattle.mol_spell_rules.specs.SpelledExpressions.{asks_name}
use Rattle.mol_faults_expr.proofs.expr_reader.ExprReader.param.Goals as goal

pub returns : goal.returns
returns g c =
    let writer = g.N.Names.writer c.args.self.now.names.now in
    let locals = g.N.Names.locals c.args.self.now.names.now in
    let mode = mode_of c.args.mode in
    record {
      noted = c.in_ok-note_variable.ensures (param_reference writer locals c.args.id.now mode) refl refl
          (ap (λ name. asks_name writer locals name mode) c.param_name.ensures);
      typed = c.param_value.ensures ∙ ap (λ program. param_value program c.args.id.now) c.table.ensures;
    }
