use Rattle.std.proofs.Common.{◌∙◌, ap}
use Rattle.mol_table_rules.specs.Program.{Program, value_at}
use Rattle.mol_spell.proofs.units.unit_writer.UnitWriter.value.Goals as goal

pub returns : goal.returns
returns g c = c.get.ensures ∙ ap (λ (program : Program). value_at program c.args.id.now c.args.slot) c.table.ensures
