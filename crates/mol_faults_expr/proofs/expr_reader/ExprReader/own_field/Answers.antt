use Rattle.std.proofs.Common.{ap, ◌∙◌}
use Rattle.mol_resolve_rules.specs.StaticTypes.{field_value}
use Rattle.mol_faults_expr.proofs.expr_reader.ExprReader.own_field.Goals as goal

pub returns : goal.returns
returns g c =
    let writer = g.N.Names.writer c.args.self.now.names.now in
    record {
      noted = c.in_ok-note_own_field.ensures;
      typed = c.field_value.ensures ∙ ap (λ program. field_value program c.args.field.now) c.table.ensures;
    }
