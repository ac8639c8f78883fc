use Rattle.std.proofs.Common.{ap, ◌∙◌}
use Rattle.mol_spell.proofs.units.unit_writer.UnitWriter.signature.Goals as goal
use Rattle.mol_table_rules.specs.Program.{Program, name_at}

pub returns : goal.returns
returns g c = λ i. record {
  result = c.in_ok-result.ensures i;
  name = (c.in_ok-name.ensures ∙ c.name_of.ensures
      ∙ ap (λ (program : Program). name_at program c.args.method.now) c.table.ensures) i;
  params = c.in_ok-params.ensures i;
}
