use Rattle.std.proofs.Common.{◌∙◌, ap}
use Rattle.mol_spell_names.proofs.body_names.places.BodyNamesPlaces.name_of.Goals as goal
use Rattle.mol_table_rules.specs.Program.{Program, name_at}

pub returns : goal.returns
returns g c = c.name_of.ensures ∙ ap (λ (program : Program). name_at program c.args.id.now) c.table.ensures
