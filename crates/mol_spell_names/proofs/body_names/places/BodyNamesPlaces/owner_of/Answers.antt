use Rattle.std.proofs.Common.{◌∙◌, ap}
use Rattle.mol_spell_names.proofs.body_names.places.BodyNamesPlaces.owner_of.Goals as goal
use Rattle.mol_table_rules.specs.Program.{Program, owner_at}

pub returns : goal.returns
returns g c = c.owner_of.ensures ∙ ap (λ (program : Program). owner_at program c.args.field.now) c.table.ensures
