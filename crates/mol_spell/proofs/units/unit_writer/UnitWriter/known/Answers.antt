use Rattle.std.proofs.Common.{◌∙◌, ap}
use Rattle.std.specs.FinMap.{get}
use Rattle.mol_table_rules.specs.Program.{Program}
use Rattle.mol_spell.proofs.units.unit_writer.UnitWriter.known.Goals as goal

pub returns : goal.returns
returns g c = c.known.ensures ∙ ap (λ (program : Program). get program.known c.args.id.now) c.table.ensures
