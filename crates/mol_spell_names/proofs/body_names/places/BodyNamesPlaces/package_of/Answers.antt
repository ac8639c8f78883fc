use Rattle.std.proofs.Common.{◌∙◌, ap}
use Rattle.mol_spell_names.proofs.body_names.places.BodyNamesPlaces.package_of.Goals as goal
use Rattle.mol_table_rules.specs.Program.{Program, package_at}

pub returns : goal.returns
returns g c = c.package_of.ensures ∙ ap (λ (program : Program). package_at program c.args.class.now) c.table.ensures
